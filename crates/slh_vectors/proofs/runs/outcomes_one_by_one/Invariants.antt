use Rattle.std.proofs.Common.{◌≡◌, length}
use Rattle.slh_workers.proofs.ItemAnswers.{Answered}
use Rattle.slh_vectors.specs.Cases.{test_view}
use Rattle.slh_vectors.specs.Outcomes.{IsOutcome}
use Rattle.slh_vectors.proofs.runs.outcomes_one_by_one.Given as goal

abbrev pub invariant-loop-test : goal.invariant-loop-test
invariant-loop-test g l =
    (length l.outcomes.items ≡ l.test-index) × Answered (λ test outcome. IsOutcome (test_view test) outcome) l.tests l.outcomes.items
