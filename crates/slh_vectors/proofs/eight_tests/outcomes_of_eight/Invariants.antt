use Rattle.std.proofs.Common.{◌≡◌, ℕ, ◌<◌, length, get_or}
use Rattle.std.specs.Borrow.{Bor}
use Rattle.slh_vectors.specs.Cases.{verify, verify_view}
use Rattle.slh_vectors.specs.Outcomes.{IsOutcome}
use Rattle.slh_vectors.specs.declared.outcome.Outcome.{Outcome}
use Rattle.slh_vectors.specs.declared.test.VerifyTest.{VerifyTest}
use Rattle.slh_vectors.proofs.eight_tests.outcomes_of_eight.Given as goal

abbrev pub invariant-loop-j : goal.invariant-loop-j
invariant-loop-j l = (length l.outcomes ≡ 8) × ((i : ℕ) (outcome : Outcome) (test : Bor VerifyTest) → i < l.j
    → IsOutcome (verify (verify_view (get_or l.tests i test).now)) (get_or l.outcomes i outcome))
