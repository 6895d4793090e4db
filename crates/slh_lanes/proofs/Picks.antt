-- The lanes of a choice between two vectors.
use Rattle.std.proofs.Common.{◌≡◌, ℕ, ◌<◌, ◌≤◌, ◌-◌, ◌^◌, List, length, map, slice_index, Bool, false, cond, arith, sym, ap, ◌∙◌}
use Rattle.std.specs.Simd.Lanes.{zip2, sel_l, top}
use Rattle.std.proofs.Math.Dec.{ltb}
use Rattle.std.proofs.lemmas.Bool.{lt-ltb}
use Rattle.std.proofs.lemmas.Simd.{get_or-sel_l, get_or-zip2, length-zip2, tops_compared}
use mir.Syntax.{w32}

-- the choice that a comparison of a and b makes
abbrev pub picked : (a b x y : List ℕ) → List ℕ
picked a b x y = sel_l (map (top 31) (zip2 (λ p q. cond (ltb p q) (2 ^ 32 - 1) 0) a b)) x y

module _ (n : ℕ) (a b x y : List ℕ) (la : length a ≡ n) (lb : length b ≡ n) (lx : length x ≡ n) (ly : length y ≡ n) (j : ℕ) (lane : j < n) where
  picked_lane : slice_index (picked a b x y) j ≡ cond (ltb (slice_index a j) (slice_index b j)) (slice_index x j) (slice_index y j)
  picked_lane =
      let tests : List Bool = zip2 ltb a b in
      let long : length tests ≡ n = length-zip2 ltb a b (la ∙ sym lb) ∙ la in
      ap (λ ms. slice_index (sel_l ms x y) j) (tops_compared w32 ltb a b)
      ∙ get_or-sel_l tests x y j 0 (omega (arith, long)) (omega arith) (omega arith)
      ∙ ap (λ m. cond m (slice_index x j) (slice_index y j)) (get_or-zip2 ltb a b j 0 0 false (omega arith) (omega arith))

  pub picked_below : slice_index a j < slice_index b j → slice_index (picked a b x y) j ≡ slice_index x j
  picked_below lt = picked_lane ∙ ap (λ m. cond m (slice_index x j) (slice_index y j)) (lt-ltb (slice_index a j) (slice_index b j) lt)

  pub picked_others : slice_index b j ≤ slice_index a j → slice_index (picked a b x y) j ≡ slice_index y j
  picked_others le =
      let no : ltb (slice_index a j) (slice_index b j) ≡ false = grind (arith, le) in
      picked_lane ∙ ap (λ m. cond m (slice_index x j) (slice_index y j)) no
