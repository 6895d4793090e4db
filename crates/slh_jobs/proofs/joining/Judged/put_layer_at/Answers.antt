-- The part stands in the middle of the signature, and all else stays.
use Rattle.std.proofs.Common.{◌≡◌, ◌+◌, ◌-◌, ◌++◌, length, take, ap, ◌∙◌, arith, rules}
use Rattle.std.proofs.lemmas.Slice.{take-put_mid}
use Rattle.slh_few.specs.Xmss.{xmss_sig_len}
use Rattle.slh_jobs.specs.AllAnswers.{params_in}
use Rattle.slh_jobs.proofs.joining.Judged.put_layer_at.Goals as goal

pub returns-clause-part : goal.returns-clause-part
returns-clause-part c =
    let own : length c.put_layer.new.out ≡ xmss_sig_len (params_in c.args.self.now.answered.now) = search rules in
    take-put_mid c.args.start (c.args.start + c.xmss_sig_len.result - c.args.start) c.args.out.now c.put_layer.new.out _ (omega (arith, own)) (omega (arith, c.requires.out))
    ∙ ap (λ ys. take c.args.start c.args.out.now ++ ys) c.put_layer.ensures
