-- Each turn runs the next test.
use Rattle.std.proofs.Common.{◌≡◌, ◌∙◌, ◌+◌, ◌∷◌, ◌++◌, [], ◌<◌, get_or, length, ap, sym, subst, arith, rules}
use Rattle.std.proofs.lemmas.List.{length_push}
use Rattle.slh_workers.proofs.ItemAnswers.{Answered, answered_all, answered_one}
use Rattle.slh_vectors.specs.Cases.{test_view}
use Rattle.slh_vectors.specs.Outcomes.{IsOutcome}
use Rattle.slh_vectors.proofs.runs.outcomes_one_by_one.Goals as goal

pub loop-test-preserved : goal.loop-test-preserved
loop-test-preserved g c =
    let tests = c.args.tests.now in
    let outcomes = c.loop-test.outcomes.items in
    let outcome = c.in-Ok.outcome in
    let i = c.loop-test.test-index in
    let count : length outcomes ≡ i = c.loop-test.invariant.0 in
    let below : i < length tests = search rules in
    let here : get_or tests i c.test-item.result ≡ c.test-item.result = search rules in
    let pushed : c.push.new.self.items ≡ outcomes ++ outcome ∷ [] = search rules in (
      ap length pushed ∙ length_push outcomes outcome ∙ ap (λ n. n + 1) count,
      subst (λ xs. Answered (λ test outcome. IsOutcome (test_view test) outcome) tests xs) (sym pushed)
          (answered_one (λ test outcome. IsOutcome (test_view test) outcome) tests outcomes i c.test-item.result outcome c.loop-test.invariant.1 count below (rw here c.in-Ok.ensures.done)),
    )

pub returns : goal.returns
returns g c = answered_all _ c.args.tests.now c.loop-test.outcomes.items c.loop-test.invariant.1 (search (rules, arith))
