-- Seats that nothing stopped drew every job.
use Rattle.std.proofs.Common.{◌≡◌, ◌≢◌, ℕ, suc, ◌<◌, ◌≤◌, ◌==◌, ◌↔◌, ⊎_elim, List, [], ◌∷◌, get_or, Bool, true, false, cond, sym, refl, ◌∙◌, arith, IsTrue}
use Rattle.std.specs.List.{All, Any, Contains, sum_by}
use Rattle.std.proofs.lemmas.Bool.{cases_eq}
use Rattle.std.proofs.lemmas.Bool.Decides.{nat_tests}
use Rattle.std.proofs.lemmas.List.{get_or_default}
use Rattle.std.proofs.lemmas.List.Elements.{All-contains}
use Rattle.slh_board.specs.Seats.{BoardState, SeatState}
use Rattle.slh_board.specs.Counts.{times, once_below}
use Rattle.slh_board.specs.declared.seat.Mark.{Mark}
use Rattle.slh_board.specs.declared.seat.Mark.TheVariants.{Fresh, Done, Stopped}
use Rattle.slh_board.proofs.Totals.{times-cons}
use Rattle.slh_workers.specs.Answers.{numbers, Covers}
use Rattle.slh_workers.specs.Runs.{IsReported, RanSeats}

-- a number that stands in a list is an element of it
stands_in : (x : ℕ) (ys : List ℕ) → 1 ≤ times x ys → Contains ys x
stands_in x [] h = absurd (omega (arith, h))
stands_in x (y ∷ ys) h =
    ⊎_elim
    (λ (same : y ≡ x). (0, omega arith, same))
    (λ (other : y ≢ x).
    let none : ◌≡◌ {A = ℕ} (cond (y == x) 1 0) 0 = grind (arith, nat_tests) in
    let later = stands_in x ys (omega (arith, h, none, times-cons x y ys)) in
    (suc later.0, omega (arith, later.1), later.2))
    (cases_eq y x)

once_is : (x n : ℕ) → x < n → once_below x n ≡ 1
once_is x n h = grind (arith, nat_tests)

not_true : (b : Bool) → (b ≡ true → ⊥) → b ≡ false
not_true true never = absurd (never refl)
not_true false never = refl

only_done : (m : Mark) → m ≢ Fresh → m ≢ Stopped → m ≡ Done
only_done Fresh a b = absurd (a refl)
only_done Done a b = refl
only_done Stopped a b = absurd (b refl)

-- a test that no element passes
none_raised : (seats : List SeatState) → (Any (λ (s : SeatState). IsTrue s.raised) seats → ⊥) → All (λ (s : SeatState). s.raised ≡ false) seats
none_raised seats never k d lt =
    not_true (get_or seats k d).raised (λ up. never (k, get_or seats k d, lt, get_or_default seats k (get_or seats k d) d lt, up))

-- where the tally is not stopped, the answers cover all jobs
pub draws_cover : {T : Type 0} (board : BoardState) (may_stop : Type 0) (reported : ℕ → ℕ → Type 0) (right : ℕ → T → Type 0) (jobs first count drawn : ℕ) (stopped : Bool) (seats : List SeatState)
    (answers : List (ℕ × T)) → RanSeats board may_stop reported right jobs first count seats answers → 1 ≤ count → stopped ≡ false
    → (IsTrue stopped ↔ Any (λ (s : SeatState). IsTrue s.raised) seats) → (Any (λ (s : SeatState). s.mark ≡ Stopped) seats → IsTrue stopped)
    → (Any (λ (s : SeatState). s.mark ≡ Done) seats → drawn ≡ jobs)
    → ((x : ℕ) → sum_by (λ (s : SeatState). times x s.drawn) seats ≡ once_below x drawn) → Covers jobs answers
draws_cover board may_stop reported right jobs first count drawn stopped [] answers ran some calm raised seen done once j below = absurd (omega (arith, some, ran.count_is))
draws_cover board may_stop reported right jobs first count drawn stopped (s ∷ ss) answers ran some calm raised seen done once j below =
    let quiet : All (λ (t : SeatState). t.raised ≡ false) (s ∷ ss) = none_raised (s ∷ ss) (λ up. let differ : true ≡ false = sym (raised.1 up) ∙ calm in cc) in
    let marked : s.mark ≢ Fresh = (ran.ended 0 s (omega arith)).1 (quiet 0 s (omega arith)) in
    let going : s.mark ≢ Stopped = λ m. let differ : true ≡ false = sym (seen (0, s, omega arith, refl, m)) ∙ calm in cc in
    let whole : drawn ≡ jobs = done (0, s, omega arith, refl, only_done s.mark marked going) in
    stands_in j (numbers answers) (omega (arith, ran.draws quiet j, once j, once_is j drawn (omega (arith, below, whole))))

-- each job has an answer, and so was reported
pub all_reported : {T : Type 0} (reported : ℕ → ℕ → Type 0) (jobs first count : ℕ) (answers : List (ℕ × T)) → Covers jobs answers
    → All (IsReported reported first count) (numbers answers) → (job : ℕ) → job < jobs → IsReported reported first count job
all_reported reported jobs first count answers covers told job below = All-contains (IsReported reported first count) (numbers answers) job told (covers job below)
