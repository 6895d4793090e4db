-- Drawn numbers rise below the number of jobs, so the loop ends. Each turn adds one job with its right answer, and
-- reports it. The last job is reported without an answer where its run was refused, and not where the gate stopped.
use Rattle.std.proofs.Common.{rules, arith, subst, ◌≡◌, ◌++◌, ◌≤◌, ◌+◌, ap, ◌∙◌}
use Rattle.std.specs.List.{All}
use Rattle.slh_workers.specs.Answers.{AddsAnswer, numbers}
use Rattle.slh_workers.proofs.Draws.{next_above, next_above-push, next_above-le, answered_more, right_more, reported_more, all_told, last_told, last_hidden, last_lost, all_answered, all_but_few}
use Rattle.slh_workers.proofs.worker.run_steps.Goals.{then-is_err, else-is_err+in-Done, else-is_err+in-Stopped, else-is_err+in-Job+then-eq, else-is_err+in-Job+else-eq+in_default}
use Rattle.slh_workers.proofs.worker.run_steps.Goals as goal

pub loop-seat-smaller : goal.loop-seat-smaller
loop-seat-smaller g c =
    let after : next_above 0 c.claim.new.seat.drawn ≡ c.in-Job.number + 1
    = ap (λ v. next_above 0 v) c.in-Job.ensures.listed ∙ next_above-push 0 c.loop-seat.seat.drawn c.in-Job.number in
    let before : next_above 0 c.loop-seat.seat.drawn ≤ c.in-Job.number
    = next_above-le 0 c.in-Job.number c.loop-seat.seat.drawn (omega arith) c.in-Job.ensures.rises in
    omega (arith, after, before, c.in-Job.ensures.below, c.requires.jobs)

pub loop-seat-preserved : goal.loop-seat-preserved
loop-seat-preserved g c =
    let right = g.S.Steps.is_right c.args.steps.now in
    let reported = g.S.Steps.reported c.args.steps.now in
    let good : right c.in-Job.number c.in-Ok.answer = c.in-Ok.ensures.right in
    let added : AddsAnswer right c.in-Job.number c.loop-seat.answers.items c.push_reserved.new.self.items
    = subst (λ v. AddsAnswer right c.in-Job.number v c.push_reserved.new.self.items) c.reserve.ensures.items (c.in-Ok.answer, good, c.push_reserved.ensures.items) in
    record {
      mine = search rules;
      fresh = search rules;
      answered = answered_more right c.in-Job.number _ _ _ _ _ c.loop-seat.invariant.answered c.in-Job.ensures.listed added;
      right = right_more right (g.S.Steps.jobs c.args.steps.now) c.in-Job.number _ _ c.loop-seat.invariant.right (omega (arith, c.in-Job.ensures.below, c.requires.jobs)) added;
      reported = reported_more right reported c.in-Job.number _ _ c.loop-seat.invariant.reported c.leave.ensures added;
    }

pub returns : goal.returns
returns g c =
    let reported = g.S.Steps.reported c.args.steps.now in
    let now = c.loop-seat.invariant in
    let answered : c.loop-seat.seat.drawn ≡ c.args.seat.now.drawn ++ numbers c.reserve.new.self.items
    = rw c.reserve.ensures.items now.answered in
    let all : All reported (numbers c.reserve.new.self.items) = rw c.reserve.ensures.items now.reported in
    record {
      mine = search rules;
      answered = elim c.if-is_err.branch [
        | then-is_err w ↦ rw (w.end-is, w.seat-is) (all_but_few c.args.seat.now.drawn _ (numbers c.reserve.new.self.items) (w.stop.ensures.kept.1 ∙ answered))
        | else-is_err+in-Done w ↦ rw (w.end-is, w.seat-is) (all_answered c.args.seat.now.drawn w.claim.new.seat.drawn (numbers c.reserve.new.self.items) (search rules))
        | else-is_err+in-Stopped w ↦ rw (w.end-is, w.seat-is) (all_answered c.args.seat.now.drawn w.claim.new.seat.drawn (numbers c.reserve.new.self.items) (search rules))
        | else-is_err+in-Job+then-eq w ↦
            rw (w.end-is, w.seat-is) (last_lost w.in-Job.number c.args.seat.now.drawn _ _ (numbers c.reserve.new.self.items) answered (w.stop-then-eq.ensures.kept.1 ∙ w.in-Job.ensures.listed))
        | else-is_err+in-Job+else-eq+in_default w ↦
            rw (w.end-is, w.seat-is) (last_lost w.in-Job.number c.args.seat.now.drawn _ _ (numbers c.reserve.new.self.items) answered (w.stop-in_default.ensures.kept.1 ∙ w.in-Job.ensures.listed))
      ];
      all_right = rw c.reserve.ensures.items now.right;
      all_reported = all;
      told = elim c.if-is_err.branch [
        | then-is_err w ↦ rw (w.end-is, w.seat-is) (all_told reported _ _ _ all (w.stop.ensures.kept.1 ∙ answered))
        | else-is_err+in-Done w ↦ rw (w.end-is, w.seat-is) (all_told reported _ _ _ all (search rules))
        | else-is_err+in-Stopped w ↦ rw (w.end-is, w.seat-is) (all_told reported _ _ _ all (search rules))
        | else-is_err+in-Job+then-eq w ↦
            rw (w.end-is, w.seat-is) (last_hidden reported w.in-Job.number _ _ _ _ all answered (w.stop-then-eq.ensures.kept.1 ∙ w.in-Job.ensures.listed))
        | else-is_err+in-Job+else-eq+in_default w ↦
            rw (w.end-is, w.seat-is) (last_told reported w.in-Job.number _ _ _ _ all w.leave.ensures answered (w.stop-in_default.ensures.kept.1 ∙ w.in-Job.ensures.listed))
      ];
      ended = search rules;
    }
