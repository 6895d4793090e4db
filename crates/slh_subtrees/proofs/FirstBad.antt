-- The test of cut points, point by point.
use Rattle.std.proofs.Common.{◌≡◌, ℕ, ◌+◌, ◌<◌, ◌≤◌, List, ◌∷◌, length, drop, get_or, suc, drop-cons, Option, Some, None, refl, ◌∙◌, ap, Bool, nat_lt, cond, true, false, ◌&&◌}
use Rattle.std.proofs.lemmas.Bool.{lt-ltb, le-ltb, ltb-true}
use Rattle.slh_subtrees.specs.Points.{first_bad}

late_head : (leaves before at p : ℕ) (ps : List ℕ) → 255 ≤ at → first_bad leaves before at (p ∷ ps) ≡ Some at
late_head leaves before at p ps late = rw (le-ltb at 255 late)

low_head : (leaves before at p : ℕ) (ps : List ℕ) → at < 255 → p ≤ before → first_bad leaves before at (p ∷ ps) ≡ Some at
low_head leaves before at p ps few low = rw (lt-ltb at 255 few, le-ltb before p low)

high_head : (leaves before at p : ℕ) (ps : List ℕ) → at < 255 → before < p → leaves ≤ p → first_bad leaves before at (p ∷ ps) ≡ Some at
high_head leaves before at p ps few above high = rw (lt-ltb at 255 few, lt-ltb before p above, le-ltb p leaves high)

pub bad_late : (leaves before i : ℕ) (points : List ℕ) → i < length points → 255 ≤ i → first_bad leaves before i (drop i points) ≡ Some i
bad_late leaves before i points here late =
    ap (λ v. first_bad leaves before i v) (drop-cons points i 0 here) ∙ late_head leaves before i (get_or points i 0) (drop (suc i) points) late

pub bad_low : (leaves before i : ℕ) (points : List ℕ) → i < length points → i < 255 → get_or points i 0 ≤ before
    → first_bad leaves before i (drop i points) ≡ Some i
bad_low leaves before i points here few low =
    ap (λ v. first_bad leaves before i v) (drop-cons points i 0 here) ∙ low_head leaves before i (get_or points i 0) (drop (suc i) points) few low

pub bad_high : (leaves before i : ℕ) (points : List ℕ) → i < length points → i < 255 → before < get_or points i 0 → leaves ≤ get_or points i 0
    → first_bad leaves before i (drop i points) ≡ Some i
bad_high leaves before i points here few above high =
    ap (λ v. first_bad leaves before i v) (drop-cons points i 0 here)
    ∙ high_head leaves before i (get_or points i 0) (drop (suc i) points) few above high

-- what holds of the points where none is bad
none_of_test : (good : Bool) (rest : Option ℕ) (at : ℕ) → cond good rest (Some at) ≡ None → (good ≡ true) × (rest ≡ None)
none_of_test true rest at h = (refl, h)
none_of_test false rest at h = absurd cc

both_true : (a b : Bool) → (a && b) ≡ true → (a ≡ true) × (b ≡ true)
both_true true b h = (refl, h)
both_true false b h = absurd cc

-- what is known of a first point that is not bad
pub record IsGoodHead (leaves before at p : ℕ) (ps : List ℕ) : Type 0 where
  pub few : at < 255
  pub above : before < p
  pub below : p < leaves
  pub rest : first_bad leaves p (at + 1) ps ≡ None

pub good_head : (leaves before at p : ℕ) (ps : List ℕ) → first_bad leaves before at (p ∷ ps) ≡ None → IsGoodHead leaves before at p ps
good_head leaves before at p ps good =
    let parts = none_of_test (nat_lt at 255 && (nat_lt before p && nat_lt p leaves)) (first_bad leaves p (at + 1) ps) at good in
    let tests = both_true (nat_lt at 255) (nat_lt before p && nat_lt p leaves) parts.0 in
    let order = both_true (nat_lt before p) (nat_lt p leaves) tests.1 in
    record {
      few = ltb-true at 255 tests.0;
      above = ltb-true before p order.0;
      below = ltb-true p leaves order.1;
      rest = parts.1;
    }
