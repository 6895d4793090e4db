-- The outcomes of tests, one to each.
use Rattle.std.proofs.Common.{◌≡◌, ℕ, suc, ◌<◌, List, [], ◌∷◌, length, get_or, arith}
use Rattle.slh_vectors.specs.Cases.{test_view, views}
use Rattle.slh_vectors.specs.Outcomes.{AreOutcomes, IsOutcome}
use Rattle.slh_vectors.specs.declared.outcome.Outcome.{Outcome}
use Rattle.slh_vectors.specs.declared.test.Test.{Test}
use Rattle.slh_workers.specs.Items.{AreAnswers}

-- as many outcomes as tests, each that of the test in its place
by_place : (ts : List Test) (os : List Outcome) → length os ≡ length ts
    → ((i : ℕ) (t : Test) (o : Outcome) → i < length ts → IsOutcome (test_view (get_or ts i t)) (get_or os i o)) → AreOutcomes (views ts) os
by_place [] [] e h = tt
by_place (t ∷ ts) (o ∷ os) e h = (h 0 t o (omega arith), by_place ts os (omega (arith, e)) (λ i u p lt. h (suc i) u p (omega (arith, lt))))
by_place [] (o ∷ os) e h = absurd (omega (arith, e))
by_place (t ∷ ts) [] e h = absurd (omega (arith, e))

-- answers to the tests are their outcomes
pub outcomes_of_answers : (ts : List Test) (os : List Outcome) → AreAnswers (λ test outcome. IsOutcome (test_view test) outcome) ts os → AreOutcomes (views ts) os
outcomes_of_answers ts os answers = by_place ts os answers.len answers.each
