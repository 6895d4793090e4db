use Rattle.std.proofs.Common.{◌≡◌}
use Rattle.std.specs.Vec.{vec_len}
use Rattle.slh_board.proofs.Tallies.{Gathers}
use Rattle.slh_board.proofs.board.Board.finish.Given as goal

-- the one seat knows what the seats that were joined knew
abbrev pub invariant-loop-seat : goal.invariant-loop-seat
invariant-loop-seat g l = record {
  table : l.whole.table_id ≡ l.table.shared.table_id;
  gathers : Gathers l.fn.self l.whole.me.0 l.seats.items l.fn.seats.items;
}

abbrev pub decreases-loop-seat : goal.decreases-loop-seat
decreases-loop-seat g l = vec_len l.seats
