use Rattle.std.proofs.Common.{◌≡◌, ◌-◌, [], replicate}
use Rattle.std.specs.Vec.{vec_len, vec_capacity}
use Rattle.slh_board.specs.Seats.{new_seat}
use Rattle.slh_board.specs.Views.{seats_of}
use Rattle.slh_board.proofs.board.Board.start.Given as goal

-- the first seat stands for those that were not dealt yet
abbrev pub invariant-deal : goal.invariant-deal
invariant-deal g l = record {
  table : l.first.table_id ≡ l.table.shared.table_id;
  first : l.first.me ≡ (seats_of l.jobs l.seats (l.seats - l.counter), []);
  room : vec_capacity l.fresh ≡ l.seats;
  dealt : vec_len l.fresh ≡ l.counter;
  items : l.fresh.items ≡ replicate l.counter (new_seat (record { table = l.table.shared.table_id; jobs = l.jobs; seats = l.seats }));
}
