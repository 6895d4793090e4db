-- What the workers of the run give is what workers give, whatever is right; so their answers in order are right.
use Rattle.std.proofs.Common.{arith, ◌≡◌, ℕ, ◌<◌, length, subst, sym, ap, ◌∙◌, IfOk}
use Rattle.std.proofs.Math.ListN.{length-replicate}
use Rattle.slh_board.specs.Seats.{new_seat}
use Rattle.slh_workers.specs.Runs.{HaveAnswered, IsReported}
use Rattle.slh_workers.proofs.Outcomes.{have_ended, right_in_order, reported_in_order}
use Rattle.slh_workers.proofs.run.run_all.Goals as goal

pub outcome-requires : goal.outcome-requires
outcome-requires g c =
    let some : length c.in_ok-board.seats.items ≡ c.number.result = ap length c.in_ok-board.ensures.seats ∙ length-replicate c.number.result (new_seat c.in_ok-board.board) in
    have_ended c.in_ok-board.board (g.G.Gate.may_stop c.args.gate.now) (g.G.Gate.reported c.args.gate.now) (g.W.Work.is_right c.args.work.now) (g.W.Work.jobs c.args.work.now)
    (length c.in_ok-board.seats.items) c.run_seats-worked.result (sym (c.in_ok-board.ensures.board.0 ∙ c.count.ensures)) (some ∙ sym c.in_ok-board.ensures.board.1)
    (omega (arith, some, c.number.ensures.within)) c.run_seats-worked.ensures

pub returns-clause-right : goal.returns-clause-right
returns-clause-right g c =
    right_in_order c.in_ok-board.board (g.G.Gate.may_stop c.args.gate.now) (g.G.Gate.reported c.args.gate.now) (g.W.Work.is_right c.args.work.now) (g.W.Work.jobs c.args.work.now)
    (length c.in_ok-board.seats.items) c.run_seats-worked.result c.outcome.result c.run_seats-worked.ensures
    (subst (λ n. IfOk c.outcome.result (λ outs. HaveAnswered n outs.items c.run_seats-worked.result)) (c.in_ok-board.ensures.board.0 ∙ c.count.ensures) c.outcome.ensures.answered)

pub returns-clause-reported : goal.returns-clause-reported
returns-clause-reported g c =
    let some : length c.in_ok-board.seats.items ≡ c.number.result = ap length c.in_ok-board.ensures.seats ∙ length-replicate c.number.result (new_seat c.in_ok-board.board) in
    subst (λ n. IfOk c.outcome.result (λ outs. (job : ℕ) → job < g.W.Work.jobs c.args.work.now → IsReported (g.G.Gate.reported c.args.gate.now) 0 n job)) (some ∙ c.number.ensures.value)
    (reported_in_order c.in_ok-board.board (g.G.Gate.may_stop c.args.gate.now) (g.G.Gate.reported c.args.gate.now) (g.W.Work.is_right c.args.work.now) (g.W.Work.jobs c.args.work.now)
    (length c.in_ok-board.seats.items) c.run_seats-worked.result c.outcome.result c.run_seats-worked.ensures
    (subst (λ n. IfOk c.outcome.result (λ outs. HaveAnswered n outs.items c.run_seats-worked.result)) (c.in_ok-board.ensures.board.0 ∙ c.count.ensures) c.outcome.ensures.answered))
