-- The outcome at the place is that of the test there, and the outcomes before it stay.
use Rattle.std.proofs.Common.{◌≡◌, ◌∙◌, ℕ, ◌<◌, get_or, set, length, length-set, inl, inr, arith, rules}
use Rattle.std.proofs.lemmas.Bool.{cases_eq}
use Rattle.std.proofs.lemmas.List.{get_or-set_same, get_or-set_other, get_or_default}
use Rattle.slh_vectors.proofs.eight_tests.outcomes_of_eight.Goals as goal

pub loop-j-preserved : goal.loop-j-preserved
loop-j-preserved c =
    let j : ℕ = c.loop-j.j in
    let outcomes = c.loop-j.outcomes in
    let outcome = c.outcome_by.result in
    let few : j < length outcomes = omega (arith, c.loop-j.invariant.0, c.loop-j-test.true) in (
      length-set outcomes j outcome ∙ c.loop-j.invariant.0,
      λ i other test h. elim (cases_eq i j) [
        | inl same ↦
            let a : get_or (set outcomes j outcome) j other ≡ outcome = get_or-set_same outcomes j outcome other few in
            let own = c.index-tests-j.result in
            let x : get_or c.args.tests.now j own ≡ get_or c.args.tests.now j test = get_or_default c.args.tests.now j own test (search rules) in
            rw (same, a, ← x) (c.outcome_by.ensures (c.verdicts_of_eight-valid.ensures j _ own c.loop-j-test.true))
        | inr differs ↦
            let a : get_or (set outcomes j outcome) i other ≡ get_or outcomes i other = get_or-set_other outcomes j i outcome other differs in
            rw a (c.loop-j.invariant.1 i other test (omega (arith, h, differs)))
      ],
    )
