-- What the loop keeps: the seat is of this board, and what it drew has right answers and is reported.
use Rattle.std.proofs.Common.{◌≡◌, ◌-◌, ◌++◌}
use Rattle.std.specs.List.{All}
use Rattle.slh_workers.specs.Answers.{AllRight, numbers}
use Rattle.slh_workers.specs.Ends.{IsFresh}
use Rattle.slh_workers.proofs.Draws.{next_above}
use Rattle.slh_workers.proofs.worker.run_steps.Given as goal

abbrev pub invariant-loop-seat : goal.invariant-loop-seat
invariant-loop-seat g l =
    record {
      mine : l.seat.board ≡ l.board;
      fresh : IsFresh l.seat;
      answered : l.seat.drawn ≡ l.fn.seat.drawn ++ numbers l.answers.items;
      right : AllRight (g.S.Steps.is_right l.steps) (g.S.Steps.jobs l.steps) l.answers.items;
      reported : All (g.S.Steps.reported l.steps) (numbers l.answers.items);
    }

abbrev pub decreases-loop-seat : goal.decreases-loop-seat
decreases-loop-seat g l = g.S.Steps.jobs l.steps - next_above 0 l.seat.drawn
