-- The rule of the board's table, between any two steps. Word 0 is next, word 1 is halt.
use Rattle.std.specs.Prelude.{◌≡◌, ◌≢◌, ℕ, ◌+◌, ◌^◌, ◌<◌, ◌≤◌, ◌⊎◌, List, [], ◌∷◌, length, min, Bool, true, if◌then◌else◌}
use Rattle.std.specs.List.{All, sum_by}
use mathlib.Core.Option.{some}
use lib.ListN.{get_elem?}
use Rattle.atomic_table.specs.Table.{State, Step, Me}
use Rattle.slh_board.specs.declared.view.View.{View}
use Rattle.slh_board.specs.declared.view.Plan.{Plan}
use Rattle.slh_board.specs.Counts.{times, once_below}
use Rattle.slh_board.specs.Views.{spent, looked, drew, with_raised}

-- The rule for a view that is not spent: it has the board's numbers, and no more done marks than seats; if it is
-- stopped, halt is 1
pub record Sits (plan : Plan) (halt : ℕ) (v : View) : Type 0 where
  pub jobs : v.jobs ≡ plan.jobs
  pub board_seats : v.board_seats ≡ plan.seats
  pub stands : 1 ≤ v.seats
  pub marks : v.done ≤ v.seats
  pub halted : v.stopped ≡ true → halt ≡ 1

abbrev pub one_if : Bool → ℕ
one_if b = if b then 1 else 0

-- The rule for the words and all views together. Their lists hold the numbers below the lesser of next and jobs, each
-- once, so that is their length. next is that length plus the done marks. The views represent the board's seats. halt
-- is 1 if a view is raised, else 0. There are fewer than 2^32 jobs, and at most 64 seats
pub record Keeps (plan : Plan) (next halt : ℕ) (views : List View) : Type 0 where
  pub each_once : (x : ℕ) → sum_by (λ (v : View). times x v.drawn) views ≡ once_below x (min next plan.jobs)
  pub drawn : sum_by (λ (v : View). length v.drawn) views ≡ min next plan.jobs
  pub marks : next ≡ sum_by (λ (v : View). length v.drawn) views + sum_by (λ (v : View). v.done) views
  pub seats : sum_by (λ (v : View). v.seats) views ≡ plan.seats
  pub raised : halt ≡ min 1 (sum_by (λ (v : View). one_if v.raised) views)
  pub sits : (i : ℕ) (v : View) → get_elem? views i ≡ some v → (v ≡ spent) ⊎ Sits plan halt v
  pub small : (plan.jobs < 2 ^ 32) × (plan.seats ≤ 64)

abbrev pub Holds : Plan → State ℕ View → Type 0
Holds plan s = (next : ℕ) × (halt : ℕ) × (s.words ≡ next ∷ halt ∷ []) × Keeps plan next halt s.views

-- a look: the caller is stopped if halt is set, and it is set if the caller raised it
abbrev pub Looks : Step ℕ → Me ℕ View → ℕ → Me ℕ View → Type 0
Looks st m n m' = (m'.0 ≡ looked m.0 n) × (m'.1 ≡ m.1) × (m.0.raised ≡ true → n ≢ 0)

-- a draw: if the number found is a job, it is added to the list, and is above all others in it; else the caller has one
-- done mark more
abbrev pub Draws : Step ℕ → Me ℕ View → ℕ → Me ℕ View → Type 0
Draws st m n m' = (m'.0 ≡ drew m.0 n) × (m'.1 ≡ m.1) × All (λ y. y < n) m.0.drawn

-- a stop: the caller is raised
abbrev pub Raises : Step ℕ → Me ℕ View → ℕ → Me ℕ View → Type 0
Raises st m n m' = (m'.0 ≡ with_raised m.0) × (m'.1 ≡ m.1)
