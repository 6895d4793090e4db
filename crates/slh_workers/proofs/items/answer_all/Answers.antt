-- The answers so far are those of the items so far, and the next workers' follow in their order.
use Rattle.std.proofs.Common.{◌≡◌, ℕ, ◌+◌, ◌-◌, ◌≤◌, ◌++◌, length, take, drop, sym, subst, arith, rules}
use Rattle.slh_workers.specs.Items.{AreAnswers}
use Rattle.slh_workers.proofs.ItemAnswers.{Answered, answered_more}
use Rattle.slh_workers.proofs.items.answer_all.Goals as goal

pub loop-workers-preserved : goal.loop-workers-preserved
loop-workers-preserved g c =
    let P = g.Q.Question.is_answer c.args.question.now in
    let items = c.args.items.now in
    let answers = c.loop-workers.answers.items in
    let more = c.in_ok-more.more.items in
    let n : ℕ = c.len-start.result in
    let k : ℕ = c.min.result in
    let start : n ≡ length answers = search rules in
    let fits : length answers + k ≤ length items = omega (arith, start) in
    let joined : c.append.new.self.items ≡ answers ++ more = search rules in
    let size : n + k - n ≡ k = omega arith in
    let own : AreAnswers P (take k (drop n items)) more = rw size at c.in_ok-more.ensures in
    let now : AreAnswers P (take k (drop (length answers) items)) more = subst (λ (i : ℕ). AreAnswers P (take k (drop i items)) more) start own in
    subst (λ xs. Answered P items xs) (sym joined) (answered_more P items answers more k c.loop-workers.invariant fits now)
