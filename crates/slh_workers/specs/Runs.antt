-- Several workers over one board.
use Rattle.std.specs.Prelude.{◌≡◌, ◌≢◌, ℕ, ◌+◌, ◌<◌, ◌≤◌, List, length, true, false, IsTrue, IfOk, IfErr, Result, Ok, Err, Vec, ◌++◌}
use Rattle.std.specs.List.{All, Any, sum_by}
use Rattle.slh_board.specs.Seats.{BoardState, SeatState, new_seat}
use Rattle.slh_board.specs.Counts.{times}
use Rattle.slh_board.specs.declared.seat.Mark.TheVariants.{Fresh}
use Rattle.slh_workers.specs.Answers.{numbers, AllRight, Covers, InPlace}

-- Seats of a board as it gave them, one for each of the workers numbered from first on
pub record IsReady (board : BoardState) (count first : ℕ) (seats : List SeatState) : Type 0 where
  pub some : 1 ≤ length seats
  pub few : first + length seats ≤ 64
  pub new : All (λ s. s ≡ new_seat board) seats
  pub jobs : board.jobs ≡ count

-- a seat whose worker has ended, with memory: only a gate that may stop has raised it, and else it is marked
abbrev pub HasEnded : Type 0 → SeatState → Type 0
HasEnded may_stop seat = (seat.raised ≡ true → may_stop) × (seat.raised ≡ false → seat.mark ≢ Fresh)

-- a seat of the board that stopped it
abbrev pub HasStopped : BoardState → SeatState → Type 0
HasStopped board seat = (seat.board ≡ board) × IsTrue seat.raised

-- one of count workers, numbered from first on, has reported the job to the gate
abbrev pub IsReported : (ℕ → ℕ → Type 0) → ℕ → ℕ → ℕ → Type 0
IsReported reported first count job = (worker : ℕ) × (first ≤ worker) × (worker < first + count) × reported worker job

-- The work of count workers at their seats, numbered from first on: right answers, each to a job that one of them has
-- reported. If no seat is raised, there is one to each number that the seats drew
pub record RanSeats {T : Type 0} (board : BoardState) (may_stop : Type 0) (reported : ℕ → ℕ → Type 0) (right : ℕ → T → Type 0) (jobs first count : ℕ) (seats : List SeatState) (answers : List (ℕ × T)) : Type 0 where
  pub count_is : length seats ≡ count
  pub mine : All (λ s. s.board ≡ board) seats
  pub ended : All (HasEnded may_stop) seats
  pub all_right : AllRight right jobs answers
  pub all_reported : All (IsReported reported first count) (numbers answers)
  pub draws : All (λ s. s.raised ≡ false) seats → (x : ℕ) → times x (numbers answers) ≡ sum_by (λ (s : SeatState). times x s.drawn) seats

-- the result of count workers: their seats and their answers, or if memory was refused a seat that stopped the board
abbrev pub HaveWorked : {T Z : Type 0} → BoardState → Type 0 → (ℕ → ℕ → Type 0) → (ℕ → T → Type 0) → ℕ → ℕ → ℕ → Result (Vec SeatState Z × Vec (ℕ × T) Z) SeatState → Type 0
HaveWorked {T} {Z} board may_stop reported right jobs first count worked =
    IfOk worked (λ w. RanSeats board may_stop reported right jobs first count w.0.items w.1.items) × IfErr worked (HasStopped board)

-- the result of the workers at all seats of a board, for any relation of right answers, any gate, and any stop
abbrev pub HaveEnded : {T Z : Type 0} → BoardState → Result (Vec SeatState Z × Vec (ℕ × T) Z) SeatState → Type 0
HaveEnded {T} {Z} board worked = (1 ≤ board.seats) × HaveWorked board (Unit {0}) (λ _ _. Unit {0}) (λ _ _. Unit {0}) board.jobs 0 board.seats worked

-- one of the workers was refused memory
abbrev pub WereRefused : {T Z : Type 0} → Result (Vec SeatState Z × Vec (ℕ × T) Z) SeatState → Type 0
WereRefused (Ok w) = ⊥
WereRefused (Err seat) = Unit {0}

-- none of the workers was refused memory, and one of them stopped the board
abbrev pub HaveStopped : {T Z : Type 0} → Result (Vec SeatState Z × Vec (ℕ × T) Z) SeatState → Type 0
HaveStopped (Ok w) = Any (λ s. IsTrue s.raised) w.0.items
HaveStopped (Err seat) = ⊥

-- none of the workers was refused memory, and their answers cover the numbers below n, in whose order these are
abbrev pub HaveAnswered : {T Z : Type 0} → ℕ → List T → Result (Vec SeatState Z × Vec (ℕ × T) Z) SeatState → Type 0
HaveAnswered n outs (Ok w) = Covers n w.1.items × InPlace n w.1.items outs
HaveAnswered n outs (Err seat) = ⊥

-- the results of both halves of the seats together: all seats and answers, or a seat that stopped the board
unfoldable pub AreTogether : {T Z : Type 0} → BoardState → Result (Vec SeatState Z × Vec (ℕ × T) Z) SeatState → Result (Vec SeatState Z × Vec (ℕ × T) Z) SeatState → Result (Vec SeatState Z × Vec (ℕ × T) Z) SeatState → Type 0
AreTogether board front back (Err seat) = HasStopped board seat
AreTogether board (Ok f) (Ok b) (Ok w) = (w.0.items ≡ f.0.items ++ b.0.items) × (w.1.items ≡ f.1.items ++ b.1.items)
AreTogether board front back (Ok w) = ⊥
