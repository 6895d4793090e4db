use Rattle.std.proofs.Common.{◌≡◌, ℕ, ◌+◌, ◌-◌, ◌<◌, ◌≤◌}
use Rattle.std.specs.List.{All}
use Rattle.slh_tests.proofs.board.threads.claim_all.Given as goal

-- low is at most each number that is above all that was drawn
abbrev pub invariant-loop-low : goal.invariant-loop-low
invariant-loop-low l = record {
  board : l.seat.board ≡ l.board;
  within : l.low ≤ l.board.jobs;
  least : (x : ℕ) → All (λ y. y < x) l.seat.drawn → l.low ≤ x;
}

abbrev pub decreases-loop-low : goal.decreases-loop-low
decreases-loop-low l = l.board.jobs + 1 - l.low
