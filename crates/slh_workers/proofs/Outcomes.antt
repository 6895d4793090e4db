-- What workers that have ended give, whatever is right and whoever may stop, and what that says of them.
use Rattle.std.proofs.Common.{◌≡◌, ℕ, ◌<◌, ◌≤◌, subst, IfOk, Ok, Err, Result, Vec}
use Rattle.slh_board.specs.Seats.{BoardState, SeatState}
use Rattle.slh_workers.specs.Answers.{RightByPlace}
use Rattle.slh_workers.specs.Runs.{HaveAnswered, HaveEnded, HaveWorked, IsReported}
use Rattle.slh_workers.proofs.Covered.{all_reported}
use Rattle.slh_workers.proofs.Places.{right_by_place}

-- which answers are right, who is told and who may stop is no matter
whatever : {T Z : Type 0} (board : BoardState) (may_stop : Type 0) (reported : ℕ → ℕ → Type 0) (right : ℕ → T → Type 0) (jobs count : ℕ)
    (worked : Result (Vec SeatState Z × Vec (ℕ × T) Z) SeatState) → HaveWorked board may_stop reported right jobs 0 count worked
    → HaveWorked board (Unit {0}) (λ _ _. Unit {0}) (λ _ _. Unit {0}) jobs 0 count worked
whatever board may_stop reported right jobs count (Ok w) (ran, _) = (
  record {
    count_is = ran.count_is;
    mine = ran.mine;
    ended = λ k d lt. (λ up. tt, (ran.ended k d lt).1);
    all_right = λ k d lt. ((ran.all_right k d lt).0, tt);
    all_reported = λ k d lt. let (worker, above, below, told) = ran.all_reported k d lt in (worker, above, below, tt);
    draws = ran.draws;
  },
  tt,
)
whatever board may_stop reported right jobs count (Err s) (_, stopped) = (tt, stopped)

pub have_ended : {T Z : Type 0} (board : BoardState) (may_stop : Type 0) (reported : ℕ → ℕ → Type 0) (right : ℕ → T → Type 0) (jobs count : ℕ)
    (worked : Result (Vec SeatState Z × Vec (ℕ × T) Z) SeatState) → jobs ≡ board.jobs → count ≡ board.seats → 1 ≤ count
    → HaveWorked board may_stop reported right jobs 0 count worked → HaveEnded board worked
have_ended board may_stop reported right jobs count worked same all some ran =
    let done : HaveWorked board (Unit {0}) (λ _ _. Unit {0}) (λ _ _. Unit {0}) jobs 0 count worked = whatever board may_stop reported right jobs count worked ran in (
      subst (λ v. 1 ≤ v) all some,
      subst (λ v. HaveWorked board (Unit {0}) (λ _ _. Unit {0}) (λ _ _. Unit {0}) board.jobs 0 v worked) all
          (subst (λ v. HaveWorked board (Unit {0}) (λ _ _. Unit {0}) (λ _ _. Unit {0}) v 0 count worked) same done),
    )

-- answers in the order of their numbers are right
pub right_in_order : {T Z E : Type 0} (board : BoardState) (may_stop : Type 0) (reported : ℕ → ℕ → Type 0) (right : ℕ → T → Type 0) (jobs count : ℕ)
    (worked : Result (Vec SeatState Z × Vec (ℕ × T) Z) SeatState) (result : Result (Vec T Z) E) → HaveWorked board may_stop reported right jobs 0 count worked
    → IfOk result (λ outs. HaveAnswered jobs outs.items worked) → IfOk result (λ outs. RightByPlace right outs.items)
right_in_order board may_stop reported right jobs count (Ok w) (Ok outs) (ran, _) (covers, placed) = right_by_place right jobs w.1.items outs.items ran.all_right placed
right_in_order board may_stop reported right jobs count (Err s) (Ok outs) ran never = elim never [ ]
right_in_order board may_stop reported right jobs count worked (Err e) ran none = tt

-- and their jobs were reported
pub reported_in_order : {T Z E : Type 0} (board : BoardState) (may_stop : Type 0) (reported : ℕ → ℕ → Type 0) (right : ℕ → T → Type 0) (jobs count : ℕ)
    (worked : Result (Vec SeatState Z × Vec (ℕ × T) Z) SeatState) (result : Result (Vec T Z) E) → HaveWorked board may_stop reported right jobs 0 count worked
    → IfOk result (λ outs. HaveAnswered jobs outs.items worked) → IfOk result (λ outs. (job : ℕ) → job < jobs → IsReported reported 0 count job)
reported_in_order board may_stop reported right jobs count (Ok w) (Ok outs) (ran, _) (covers, placed) = all_reported reported jobs 0 count w.1.items covers ran.all_reported
reported_in_order board may_stop reported right jobs count (Err s) (Ok outs) ran never = elim never [ ]
reported_in_order board may_stop reported right jobs count worked (Err e) ran none = tt
