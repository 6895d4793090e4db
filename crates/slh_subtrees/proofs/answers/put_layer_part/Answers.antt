-- The part stands in the middle of the signature, and all else stays.
use Rattle.std.proofs.Common.{◌≡◌, ◌+◌, ◌-◌, ◌++◌, length, take, ap, ◌∙◌, arith, rules}
use Rattle.std.proofs.lemmas.Slice.{take-put_mid}
use Rattle.slh_params.specs.ParamSet.{params}
use Rattle.slh_few.specs.Xmss.{xmss_sig_len}
use Rattle.slh_subtrees.proofs.answers.put_layer_part.Goals as goal

pub returns-clause-part : goal.returns-clause-part
returns-clause-part g c =
    let own : length c.layer_part.new.out ≡ xmss_sig_len (params c.args.trees.now.signer.now.public.set) = search rules in
    take-put_mid c.args.start (c.args.start + c.xmss_sig_len.result - c.args.start) c.args.out.now c.layer_part.new.out _ (omega (arith, own)) (omega (arith, c.requires.out))
    ∙ ap (λ ys. take c.args.start c.args.out.now ++ ys) c.layer_part.ensures.part
