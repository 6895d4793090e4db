-- Each outcome is that of the verify test in its place.
use Rattle.std.proofs.Common.{◌≡◌, ◌∙◌, ℕ, ◌<◌, List, get_or, length, subst, sym, arith, rules}
use Rattle.std.proofs.lemmas.List.{get_or_default}
use Rattle.slh_core.proofs.EightVerdicts.{at_each_of_eight}
use Rattle.slh_vectors.specs.Cases.{test_view}
use Rattle.slh_vectors.specs.Outcomes.{IsOutcome}
use Rattle.slh_vectors.specs.declared.outcome.Outcome.{Outcome}
use Rattle.slh_vectors.specs.declared.test.Test.{Test}
use Rattle.slh_vectors.specs.declared.test.Test.TheVariants.{Verify}
use Rattle.slh_vectors.specs.declared.test.VerifyTest.{VerifyTest}
use Rattle.slh_vectors.proofs.eight_tests.outcomes_of_batch.Goals as goal

-- a verify test with its outcome is a test with its outcome
outcome_at : (tests : List Test) (i : ℕ) (t : VerifyTest) (own test : Test) (o : Outcome) → i < length tests → get_or tests i own ≡ Verify t
    → IsOutcome (test_view (Verify t)) o → IsOutcome (test_view (get_or tests i test)) o
outcome_at tests i t own test o below here right =
    let there : get_or tests i test ≡ Verify t = get_or_default tests i test own below ∙ here in
    subst (λ x. IsOutcome (test_view x) o) (sym there) right

pub returns : goal.returns
returns c =
    let tests = c.args.tests.now in
    let outcomes = c.outcomes_of_eight.result in
    let size : length tests ≡ 8 = omega (arith, c.in-len8.len_at_least, c.in-len8.len_below) in
    let made : length outcomes ≡ 8 = search rules in
    record {
      len = omega (arith, size, made);
      each = λ i test outcome h. at_each_of_eight (λ j. IsOutcome (test_view (get_or tests j test)) (get_or outcomes j outcome))
          (outcome_at tests 0 c.in_ok-verify_test.field-0.now c.a-item.result test (get_or outcomes 0 outcome) (omega (arith, size)) (sym c.a-item.is ∙ c.in_ok-verify_test.ensures) (c.outcomes_of_eight.ensures 0 outcome c.in_ok-verify_test.field-0 (omega arith)))
          (outcome_at tests 1 c.in_ok-verify_test-2.field-0.now c.b-item.result test (get_or outcomes 1 outcome) (omega (arith, size)) (sym c.b-item.is ∙ c.in_ok-verify_test-2.ensures) (c.outcomes_of_eight.ensures 1 outcome c.in_ok-verify_test-2.field-0 (omega arith)))
          (outcome_at tests 2 c.in_ok-verify_test-3.field-0.now c.c-item.result test (get_or outcomes 2 outcome) (omega (arith, size)) (sym c.c-item.is ∙ c.in_ok-verify_test-3.ensures) (c.outcomes_of_eight.ensures 2 outcome c.in_ok-verify_test-3.field-0 (omega arith)))
          (outcome_at tests 3 c.in_ok-verify_test-4.field-0.now c.d-item.result test (get_or outcomes 3 outcome) (omega (arith, size)) (sym c.d-item.is ∙ c.in_ok-verify_test-4.ensures) (c.outcomes_of_eight.ensures 3 outcome c.in_ok-verify_test-4.field-0 (omega arith)))
          (outcome_at tests 4 c.in_ok-verify_test-5.field-0.now c.e-item.result test (get_or outcomes 4 outcome) (omega (arith, size)) (sym c.e-item.is ∙ c.in_ok-verify_test-5.ensures) (c.outcomes_of_eight.ensures 4 outcome c.in_ok-verify_test-5.field-0 (omega arith)))
          (outcome_at tests 5 c.in_ok-verify_test-6.field-0.now c.f-item.result test (get_or outcomes 5 outcome) (omega (arith, size)) (sym c.f-item.is ∙ c.in_ok-verify_test-6.ensures) (c.outcomes_of_eight.ensures 5 outcome c.in_ok-verify_test-6.field-0 (omega arith)))
          (outcome_at tests 6 c.in_ok-verify_test-7.field-0.now c.g-item.result test (get_or outcomes 6 outcome) (omega (arith, size)) (sym c.g-item.is ∙ c.in_ok-verify_test-7.ensures) (c.outcomes_of_eight.ensures 6 outcome c.in_ok-verify_test-7.field-0 (omega arith)))
          (outcome_at tests 7 c.in_ok-verify_test-8.field-0.now c.h-item.result test (get_or outcomes 7 outcome) (omega (arith, size)) (sym c.h-item.is ∙ c.in_ok-verify_test-8.ensures) (c.outcomes_of_eight.ensures 7 outcome c.in_ok-verify_test-8.field-0 (omega arith)))
          i (omega (arith, h, size));
    }
