-- What the last state says to the one view that stands for every seat.
use Rattle.std.proofs.Common.{◌≡◌, ◌≢◌, ℕ, ◌+◌, ◌≤◌, List, [], ◌∷◌, set, Bool, true, false, min, refl, sym, ap, ◌∙◌, subst, ⊎_elim, arith}
use Rattle.std.specs.List.{sum_by}
use mathlib.Core.Option.{some, some-injective}
use lib.ListN.{get_elem?}
use Rattle.atomic_table.specs.Table.{Final, Seen}
use Rattle.atomic_table.proofs.Lists.{at_set}
use Rattle.slh_board.specs.declared.view.View.{View}
use Rattle.slh_board.specs.declared.view.Plan.{Plan}
use Rattle.slh_board.specs.Views.{spent}
use Rattle.slh_board.specs.Counts.{times, once_below}
use Rattle.slh_board.specs.Rule.{one_if, Sits, Keeps, Holds}
use Rattle.slh_board.proofs.Totals.{sum_set, sum_none, part}
use Rattle.slh_board.proofs.Keeps.{sitting}

-- What holds of the words and of a view that stands for every seat
pub record Settled (plan : Plan) (next halt : ℕ) (v : View) : Type 0 where
  pub each_once : (x : ℕ) → times x v.drawn ≡ once_below x (min next plan.jobs)
  pub marks : next ≡ min next plan.jobs + v.done
  pub raised : halt ≡ one_if v.raised
  pub halted : v.stopped ≡ true → halt ≡ 1

-- a test as a number
one_if_small : (b : Bool) → one_if b ≤ 1
one_if_small true = omega arith
one_if_small false = omega arith

-- a total is the part of the one view that stands for every seat
alone : (plan : Plan) (next halt : ℕ) (views : List View) (i : ℕ) (v : View) → Keeps plan next halt views → get_elem? views i ≡ some v → v.seats ≡ plan.seats → 1 ≤ v.seats
    → (f : View → ℕ) → f spent ≡ 0 → sum_by f views ≡ f v
alone plan next halt views i v k e every some_seat f zero_of =
    let rest_seats : sum_by (λ (u : View). u.seats) (set views i spent) ≡ 0 = let t = sum_set (λ (u : View). u.seats) views i v spent e in let s = k.seats in omega arith in
    let all_spent : (j : ℕ) (u : View) → get_elem? (set views i spent) j ≡ some u → u ≡ spent
    = λ j u at. ⊎_elim
    (λ (x : (j ≡ i) × (spent ≡ u)). sym x.1)
    (λ (x : (j ≢ i) × (get_elem? views j ≡ some u)).
    ⊎_elim
    (λ (s : u ≡ spent). s)
    (λ (s : Sits plan halt u). let p = part (λ (u : View). u.seats) (set views i spent) j u at in let q = s.stands in absurd (omega arith))
    (k.sits j u x.1))
    (at_set views i j spent u at) in
    let none = sum_none f (set views i spent) (λ j u at. ap f (all_spent j u at) ∙ zero_of) in
    omega (arith, none, zero_of, sum_set f views i v spent e)

-- the rule, read by the view that stands for every seat
pub settled : (plan : Plan) (next halt : ℕ) (views : List View) (i : ℕ) (v : View) → Keeps plan next halt views → get_elem? views i ≡ some v → v.seats ≡ plan.seats → 1 ≤ v.seats → Settled plan next halt v
settled plan next halt views i v k e every some_seat =
    let total : (f : View → ℕ) → f spent ≡ 0 → sum_by f views ≡ f v = alone plan next halt views i v k e every some_seat in
    record {
      each_once = λ x. sym (total (λ (u : View). times x u.drawn) refl) ∙ k.each_once x;
      marks = let t = total (λ (u : View). u.done) refl in let m = k.marks in omega arith;
      raised = let t = total (λ (u : View). one_if u.raised) refl in let m = k.raised in let o = one_if_small v.raised in omega arith;
      halted = (sitting plan next halt views i v k e some_seat).halted;
    }

-- the two words of the last state
pub settles : (plan : Plan) (id : ℕ) (v : View) (words : List ℕ) (slots : List ℕ) (next halt : ℕ) → Final (Seen (Holds plan) id v) words slots → v.seats ≡ plan.seats → 1 ≤ v.seats
    → get_elem? words 0 ≡ some next → get_elem? words 1 ≡ some halt → Settled plan next halt v
settles plan id v words slots next halt final every some_seat at0 at1 =
    let s = final.0 in
    let h = final.1.0 in
    let both_words : words ≡ h.0 ∷ h.1 ∷ [] = sym final.2 ∙ h.2 in
    let n : h.0 ≡ next = some-injective h.0 next (sym (ap (λ (l : List ℕ). get_elem? l 0) both_words) ∙ at0) in
    let b : h.1 ≡ halt = some-injective h.1 halt (sym (ap (λ (l : List ℕ). get_elem? l 1) both_words) ∙ at1) in
    subst (λ (w : ℕ × ℕ). Settled plan w.0 w.1 v) (λ i. (n i, b i)) (settled plan h.0 h.1 s.views id v h.3 final.1.1 every some_seat)
