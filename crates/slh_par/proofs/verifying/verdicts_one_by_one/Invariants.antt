use Rattle.std.proofs.Common.{◌≡◌, ◌↔◌, IsTrue, length}
use Rattle.slh_workers.proofs.ItemAnswers.{Answered}
use Rattle.slh_par.specs.Verdicts.{IsVerified}
use Rattle.slh_par.proofs.verifying.verdicts_one_by_one.Given as goal

abbrev pub invariant-loop-item : goal.invariant-loop-item
invariant-loop-item g l =
    (length l.answers.items ≡ l.item-index) × Answered (λ item answer. IsTrue answer ↔ IsVerified item) l.items l.answers.items
