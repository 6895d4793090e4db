-- What a seat's fields say of the state that contracts see.
use Rattle.std.proofs.Common.{◌≡◌, List, [], ◌∷◌, ◌++◌, ap, sym, ◌∙◌, subst}
use Rattle.std.specs.List.{All}
use Rattle.slh_board.specs.declared.seat.Seat.TheInside.{Inside as SeatInside}
use Rattle.slh_board.specs.Seats.{BoardState, SeatState}
use Rattle.slh_board.specs.Kept.{IsRising, done_marks, is_stopped, IsSeat, seat_state}
use Rattle.slh_board.proofs.Totals.{All-last}
use Rattle.slh_board.proofs.Tallies.{Shows}

-- the view of a seat shows its state
pub shows : (a : SeatInside) (s : SeatState) → IsSeat a → seat_state a ≡ s → Shows a.seat.me.0 s
shows a s i e = record {
  drawn = ap (λ (t : SeatState). t.drawn) e;
  one = i.one;
  done = i.done ∙ ap (λ (t : SeatState). done_marks t.mark) e;
  raised = ap (λ (t : SeatState). t.raised) e;
  rising = subst IsRising (ap (λ (t : SeatState). t.drawn) e) i.rising;
  stopped = i.stopped ∙ ap (λ (t : SeatState). is_stopped t.mark) e;
}

-- a seat of the board has its table
pub same_table : (a : SeatInside) (s : SeatState) (board b : BoardState) → seat_state a ≡ s → b ≡ board → s.board ≡ board → a.seat.table_id ≡ b.table
same_table a s board b e f mine = ap (λ (t : SeatState). t.board.table) e ∙ (ap (λ (c : BoardState). c.table) mine ∙ sym (ap (λ (c : BoardState). c.table) f))

-- the last of seats that are all of the board
pub last_mine : (board : BoardState) (rest left : List SeatState) (s : SeatState) → left ≡ rest ++ s ∷ [] → All (λ (t : SeatState). t.board ≡ board) left → s.board ≡ board
last_mine board rest left s is mine = All-last (λ (t : SeatState). t.board ≡ board) rest s (subst (All (λ (t : SeatState). t.board ≡ board)) is mine)

-- a seat of the board has its number of jobs
pub same_jobs : (a : SeatInside) (s : SeatState) (board b : BoardState) → seat_state a ≡ s → b ≡ board → s.board ≡ board → a.seat.me.0.jobs ≡ b.jobs
same_jobs a s board b e f mine = ap (λ (t : SeatState). t.board.jobs) e ∙ (ap (λ (c : BoardState). c.jobs) mine ∙ sym (ap (λ (c : BoardState). c.jobs) f))
