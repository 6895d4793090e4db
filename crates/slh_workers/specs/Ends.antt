-- The end of a worker, and the state of its seat then.
use Rattle.std.specs.Prelude.{◌≡◌, ℕ, ◌≤◌, List, ◌++◌, length, true, false}
use Rattle.std.specs.List.{All}
use Rattle.slh_board.specs.Seats.{BoardState, SeatState}
use Rattle.slh_board.specs.declared.seat.Mark.TheVariants.{Fresh as FreshMark, Done as DoneMark, Stopped as StoppedMark}
use Rattle.slh_workers.specs.Answers.{AllRight, numbers}
use Rattle.slh_workers.specs.declared.worker.End.{End}
use Rattle.slh_workers.specs.declared.worker.End.TheVariants.{Done, Stopped, GateStop, NoMemory}

-- a seat that may work: it has seen no end, and stopped nothing
abbrev pub IsFresh : SeatState → Type 0
IsFresh seat = (seat.mark ≡ FreshMark) × (seat.raised ≡ false)

-- the end is Done exactly if the seat is done, Stopped exactly if it is stopped, and else the seat is raised; GateStop
-- comes only if the gate may stop
abbrev pub EndFits : Type 0 → End → SeatState → Type 0
EndFits may_stop Done seat = (seat.mark ≡ DoneMark) × (seat.raised ≡ false)
EndFits may_stop Stopped seat = (seat.mark ≡ StoppedMark) × (seat.raised ≡ false)
EndFits may_stop GateStop seat = (seat.mark ≡ FreshMark) × (seat.raised ≡ true) × may_stop
EndFits may_stop NoMemory seat = (seat.mark ≡ FreshMark) × (seat.raised ≡ true)

-- how many of the last numbers drawn may lack their answers
abbrev pub may_lack : End → ℕ
may_lack Done = 0
may_lack Stopped = 0
may_lack GateStop = 1
may_lack NoMemory = 1

-- the numbers drawn since before are answered, in their order, except at most the last `few` numbers
abbrev pub IsAnswered : ℕ → List ℕ → List ℕ → List ℕ → Type 0
IsAnswered few before after answered = (lost : List ℕ) × (length lost ≤ few) × (after ≡ before ++ answered ++ lost)

-- how many of the last numbers drawn the gate may not have been informed of
abbrev pub may_hide : End → ℕ
may_hide Done = 0
may_hide Stopped = 0
may_hide GateStop = 1
may_hide NoMemory = 0

-- the numbers drawn since before were reported, except at most the last `few` numbers
abbrev pub IsTold : (ℕ → Type 0) → ℕ → List ℕ → List ℕ → Type 0
IsTold reported few before after = (told : List ℕ) × All reported told × IsAnswered few before after told

-- The work of one worker, by its end: the numbers of its answers are those that its seat drew meanwhile, in their
-- order, and each answer is right for its number. It reported each job that it answered, and each that it drew
pub record HasWorked {T : Type 0} (board : BoardState) (may_stop : Type 0) (reported : ℕ → Type 0) (right : ℕ → T → Type 0) (jobs : ℕ) (before after : SeatState) (end : End) (answers : List (ℕ × T)) : Type 0 where
  pub mine : after.board ≡ board
  pub answered : IsAnswered (may_lack end) before.drawn after.drawn (numbers answers)
  pub all_right : AllRight right jobs answers
  pub all_reported : All reported (numbers answers)
  pub told : IsTold reported (may_hide end) before.drawn after.drawn
  pub ended : EndFits may_stop end after
