-- The invariants of the fields of every seat and of every board, and their views for contracts.
use Rattle.std.specs.Prelude.{◌≡◌, ℕ, ◌<◌, ◌≤◌, List, [], ◌∷◌, Bool, true, false}
use Rattle.std.specs.List.{All}
use Rattle.atomic_table.specs.Seated.{TableId}
use Rattle.slh_board.specs.declared.seat.Seat.TheInside.{Inside as SeatInside}
use Rattle.slh_board.specs.declared.view.Plan.{Plan}
use Rattle.slh_board.specs.declared.seat.Mark.{Mark}
use Rattle.slh_board.specs.declared.seat.Mark.TheVariants.{Fresh, Done, Stopped}
use Rattle.slh_board.specs.Seats.{BoardState, SeatState}

-- each number is above all before it
abbrev pub IsRising : List ℕ → Type 0
IsRising [] = Unit {0}
IsRising (x ∷ xs) = All (λ y. x < y) xs × IsRising xs

-- the number of draws that found no job left
abbrev pub done_marks : Mark → ℕ
done_marks Fresh = 0
done_marks Done = 1
done_marks Stopped = 0

-- whether a look found the board stopped
abbrev pub is_stopped : Mark → Bool
is_stopped Fresh = false
is_stopped Done = false
is_stopped Stopped = true

-- The seat of the table represents one seat, and its view has the mark
pub record IsSeat (a : SeatInside) : Type 0 where
  pub holds_none : a.seat.me.1 ≡ []
  pub one : a.seat.me.0.seats ≡ 1
  pub done : a.seat.me.0.done ≡ done_marks a.mark
  pub stopped : a.seat.me.0.stopped ≡ is_stopped a.mark
  pub rising : IsRising a.seat.me.0.drawn

abbrev pub seat_state : SeatInside → SeatState
seat_state a = record { board = record { table = a.seat.table_id; jobs = a.seat.me.0.jobs; seats = a.seat.me.0.board_seats }; drawn = a.seat.me.0.drawn; mark = a.mark; raised = a.seat.me.0.raised }

-- The table of a board has two words and no slots, and was made for its jobs and its seats
pub record IsBoard (table : TableId) (key : Plan) (count : ℕ) : Type 0 where
  pub words : table.words ≡ 2
  pub slots : table.slots ≡ 0
  pub jobs : count ≡ key.jobs
  pub some_seat : 1 ≤ key.seats

abbrev pub board_state : TableId → Plan → BoardState
board_state table key = record { table = table; jobs = key.jobs; seats = key.seats }
