-- The two verdicts in their places are those of the two items, so both are true exactly where both are valid.
use Rattle.std.proofs.Common.{rules, ◌↔◌, IsTrue, sym}
use Rattle.slh_par.specs.Verdicts.{IsVerified}
use Rattle.slh_examples.proofs.Verdicts.{first_verdict, second_verdict}
use Rattle.slh_examples.proofs.many.both_valid.Goals as goal
use Rattle.slh_examples.proofs.many.both_valid.Goals.{then-index, else-index}

pub returns-clause-valid : goal.returns-clause-valid
returns-clause-valid g c =
    let verdicts = c.in_ok-answers.ensures.answers in
    let first : IsTrue c.index.result.now ↔ IsVerified c.item.result =
    first_verdict c.item.result c.item-2.result c.in_ok-answers.answers.items c.index.result.now verdicts c.index.ensures in
    let first_item = c.item.ensures in
    let second_item = c.item-2.ensures in
    elim c.if-index.branch [
      | then-index w ↦
          let y = w.index-then-index.result.now in
          let second : IsTrue y ↔ IsVerified c.item-2.result =
          second_verdict c.item.result c.item-2.result c.in_ok-answers.answers.items y verdicts w.index-then-index.ensures in (
            λ t. (first_item.0 (first.0 w.if-index.true), second_item.0 (second.0 (rw (sym w.result-is) t))),
            λ p. rw w.result-is (second.1 (second_item.1 p.1)),
          )
      | else-index w ↦ (
        λ t. search (rules, t, w.result-is, w.if-index.false),
        λ p. rw w.result-is (first.1 (first_item.1 p.0)),
      )
    ]
