-- The number at the place is that of the verdict there, and the numbers before it stay.
use Rattle.std.proofs.Common.{◌≡◌, ℕ, ◌<◌, false, get_or, set, length, length-set, inl, inr, ap, ◌∙◌, arith}
use Rattle.std.proofs.lemmas.Bool.{cases_eq}
use Rattle.std.proofs.lemmas.List.{get_or-set_same, get_or-set_other, get_or_default}
use Rattle.slh_c.specs.Many.{number_of}
use Rattle.slh_c.proofs.many.numbers_of.Goals as goal

pub loop-j-preserved : goal.loop-j-preserved
loop-j-preserved c =
    let j : ℕ = c.loop-j.j in
    let verdicts = c.loop-j.verdicts in
    let verdict = c.number_of.result in
    let few : j < length verdicts = omega (arith, c.loop-j.invariant.count, c.loop-j-test.true) in
    record {
      count = length-set verdicts j verdict ∙ c.loop-j.invariant.count;
      each = λ i d is h. elim (cases_eq i j) [
        | inl same ↦
            let a : get_or (set verdicts j verdict) j d ≡ verdict = get_or-set_same verdicts j verdict d few in
            let within : j < length c.args.valid.now = omega (arith, c.told-valid, c.loop-j-test.true) in
            rw same (a ∙ c.number_of.ensures ∙ ap number_of (get_or_default c.args.valid.now j false is within))
        | inr other ↦
            let a : get_or (set verdicts j verdict) i d ≡ get_or verdicts i d = get_or-set_other verdicts j i verdict d other in
            a ∙ c.loop-j.invariant.each i d is (omega (arith, h, other))
      ];
    }
