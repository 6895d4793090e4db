use Rattle.std.proofs.Common.{length, ◌-◌}
use Rattle.slh_workers.proofs.ItemAnswers.{Answered}
use Rattle.slh_workers.proofs.items.answer_all.Given as goal

abbrev pub invariant-loop-workers : goal.invariant-loop-workers
invariant-loop-workers g l = Answered (g.Q.Question.is_answer l.question) l.items l.answers.items

abbrev pub decreases-loop-workers : goal.decreases-loop-workers
decreases-loop-workers g l = length l.items - length l.answers.items
