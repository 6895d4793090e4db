-- The part stands in the middle of the signature, and all else stays.
use Rattle.std.proofs.Common.{◌≡◌, ◌+◌, ◌-◌, ◌++◌, length, take, ap, ◌∙◌, arith, rules}
use Rattle.std.proofs.lemmas.Slice.{take-put_mid}
use Rattle.slh_params.specs.ParamSet.{params}
use Rattle.slh_few.specs.Fors.{fors_part_len}
use Rattle.slh_subtrees.proofs.answers.put_fors_part.Goals as goal

pub returns-clause-part : goal.returns-clause-part
returns-clause-part g c =
    let own : length c.fors_part.new.out ≡ fors_part_len (params c.args.set) = search rules in
    take-put_mid c.args.start (c.args.start + c.fors_part_len.result - c.args.start) c.args.out.now c.fors_part.new.out _ (omega (arith, own)) (omega (arith, c.requires.out))
    ∙ ap (λ ys. take c.args.start c.args.out.now ++ ys) c.fors_part.ensures.part
