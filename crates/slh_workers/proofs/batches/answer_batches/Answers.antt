use Rattle.std.proofs.Common.{sym, subst}
use Rattle.std.proofs.lemmas.Result.{IfOk-weaker}
use Rattle.slh_workers.specs.Items.{AreAnswers, joined}
use Rattle.slh_workers.proofs.ItemAnswers.{answered_batches}
use Rattle.slh_workers.proofs.batches.answer_batches.Goals as goal

pub returns : goal.returns
returns g c =
    let P = g.Q.BatchQuestion.is_answer c.args.question.now in
    let batches = c.args.batches.now in
    IfOk-weaker c.end_to_end.result _ (λ all. AreAnswers P (joined batches) all.items)
    (λ all h. subst (λ xs. AreAnswers P (joined batches) xs) (sym h) (answered_batches P batches c.in_ok-lists.lists.items c.in_ok-lists.ensures))
    c.end_to_end.ensures
