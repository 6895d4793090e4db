-- The views of a board and of its seats, for contracts.
use Rattle.std.specs.Prelude.{ℕ, List, [], Bool, false}
use Rattle.atomic_table.specs.Seated.{TableId}
use Rattle.slh_board.specs.declared.seat.Mark.{Mark}
use Rattle.slh_board.specs.declared.seat.Mark.TheVariants.{Fresh}

-- Which board it is, and how many jobs and seats it has
pub record BoardState : Type 0 where
  pub table : TableId
  pub jobs : ℕ
  pub seats : ℕ

-- A seat: its board, the numbers that it drew, in their order, its mark, and whether it stopped the board
pub record SeatState : Type 0 where
  pub board : BoardState
  pub drawn : List ℕ
  pub mark : Mark
  pub raised : Bool

-- a seat as `start` gives it
abbrev pub new_seat : BoardState → SeatState
new_seat b = record { board = b; drawn = []; mark = Fresh; raised = false }
