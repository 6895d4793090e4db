-- The machine that the two words of a board are, and its legal histories.
use Rattle.std.specs.Prelude.{◌≡◌, ℕ, ◌+◌, ◌<◌, ◌==◌, List, [], ◌∷◌, length, Bool, true, false, if◌then◌else◌, nat_lt, Some, slice_get}
use Rattle.std.specs.List.{All}
use Rattle.slh_board.specs.Seats.{SeatState}

-- The state: the answer of the next draw, and whether the board is stopped
pub record Machine : Type 0 where
  pub next : ℕ
  pub halt : Bool

abbrev pub opened : Machine
opened = record { next = 0; halt = false }

-- One atomic exchange, with its answer
pub data Exchange : Type 0 where
  Draw : ℕ → Exchange
  Look : Bool → Exchange
  Stop : Exchange

-- a draw answers next, and a look whether the board is stopped
abbrev pub IsAnswer : Machine → Exchange → Type 0
IsAnswer m (Draw n) = n ≡ m.next
IsAnswer m (Look b) = b ≡ m.halt
IsAnswer m Stop = Unit {0}

-- a draw makes next grow by 1, and a stop sets halt
abbrev pub after : Machine → Exchange → Machine
after m (Draw n) = record m { next = m.next + 1 }
after m (Look b) = m
after m Stop = record m { halt = true }

-- An exchange, and the number of the seat that made it
pub record Event : Type 0 where
  pub seat : ℕ
  pub exchange : Exchange

-- a history is legal if each answer is the machine's
abbrev pub IsLegal : Machine → List Event → Type 0
IsLegal m [] = Unit {0}
IsLegal m (e ∷ es) = IsAnswer m e.exchange × IsLegal (after m e.exchange) es

-- the exchanges of the seat i, in their order
abbrev pub own : ℕ → List Event → List Exchange
own i [] = []
own i (e ∷ es) = if e.seat == i then e.exchange ∷ own i es else own i es

-- the jobs that these draws answered: a draw's answer below the number of jobs is a job
abbrev pub jobs_of : ℕ → List Exchange → List ℕ
jobs_of jobs [] = []
jobs_of jobs (Draw n ∷ xs) = if nat_lt n jobs then n ∷ jobs_of jobs xs else jobs_of jobs xs
jobs_of jobs (Look b ∷ xs) = jobs_of jobs xs
jobs_of jobs (Stop ∷ xs) = jobs_of jobs xs

-- One legal history holds the exchanges of all seats. The jobs that a seat drew there, in their order, are the list
-- that the seat keeps.
abbrev pub OneHistory : ℕ → List SeatState → Type 0
OneHistory jobs seats = (h : List Event) × IsLegal opened h × All (λ e. e.seat < length seats) h × ((i : ℕ) (s : SeatState) → slice_get seats i ≡ Some s → jobs_of jobs (own i h) ≡ s.drawn)
