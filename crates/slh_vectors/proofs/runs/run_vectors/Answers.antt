-- The batches put end to end are the tests.
use Rattle.std.proofs.Common.{◌≡◌, subst}
use Rattle.slh_workers.specs.Items.{AreAnswers, joined}
use Rattle.slh_vectors.specs.Cases.{test_view}
use Rattle.slh_vectors.specs.Outcomes.{IsOutcome}
use Rattle.slh_vectors.proofs.AllOutcomes.{outcomes_of_answers}
use Rattle.slh_vectors.proofs.runs.run_vectors.Goals as goal

pub returns-in-Ok-answer_batches-clause-done : goal.returns-in-Ok-answer_batches-clause-done
returns-in-Ok-answer_batches-clause-done g c =
    let tests = c.args.tests.now in
    let outcomes = c.in-Ok-answer_batches.outcomes.items in
    let whole : joined c.deref.result.now ≡ tests = rw c.deref.ensures.value c.in-Ok.ensures in
    outcomes_of_answers tests outcomes
    (subst (λ ts. AreAnswers (λ test outcome. IsOutcome (test_view test) outcome) ts outcomes) whole c.in-Ok-answer_batches.ensures)
