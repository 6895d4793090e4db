-- The part stands in the middle of the buffer, and all else stays.
use Rattle.std.proofs.Common.{◌≡◌, ◌+◌, ◌-◌, ◌++◌, length, take, ap, ◌∙◌, arith, rules}
use Rattle.std.proofs.lemmas.Slice.{take-put_mid}
use Rattle.slh_few.specs.Fors.{fors_part_len}
use Rattle.slh_jobs.specs.AllAnswers.{params_in}
use Rattle.slh_jobs.proofs.all_answers.AllAnswers.put_fors_part_at.Goals as goal

pub returns-clause-part : goal.returns-clause-part
returns-clause-part c = λ some.
    let own : length c.put_fors_part.new.part ≡ fors_part_len (params_in c.args.self.now) = search rules in
    take-put_mid c.args.start (c.args.start + c.fors_part_len.result - c.args.start) c.args.out.now c.put_fors_part.new.part _ (omega (arith, own)) (omega (arith, c.requires.out))
    ∙ ap (λ ys. take c.args.start c.args.out.now ++ ys) (c.put_fors_part.ensures.part some)
