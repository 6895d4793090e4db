-- Batches whose groups are changed one after another: ours.
use Rattle.std.proofs.Common.{◌≡◌, ◌≢◌, ℕ, ◌+◌, ◌<◌, ◌≤◌, List, [], ◌∷◌, length, replicate, set, slice_index, inl, inr, arith, ap, ◌∙◌}
use Rattle.std.proofs.lemmas.Bool.{cases_lt}
use Rattle.std.proofs.lemmas.List.{get_or-replicate, get_or-set_same, get_or-set_other, length-set}
use Rattle.slh_lanes.specs.Lanes.{group}
use Rattle.slh_lanes.proofs.Columns.{splat_lane}

-- the groups before g are as they shall be, and the others as they were
abbrev pub Done : {A : Type 0} → (ℕ → List A → Type 0) → ℕ → List (List A) → List (List A) → Type 0
Done P g old new = (length new ≡ length old) × ((i : ℕ) → i < g → P i (group new i)) × ((i : ℕ) → g ≤ i → group new i ≡ group old i)

-- the next group is changed
pub done_next : {A : Type 0} → (P : ℕ → List A → Type 0) (g : ℕ) (old new : List (List A)) (y : List A)
    → g < length old → P g y → Done P g old new → Done P (g + 1) old (set new g y)
done_next P g old new y within here done =
    let other : (i : ℕ) → i ≢ g → group (set new g y) i ≡ group new i = λ i ne. get_or-set_other new g i y [] ne in
    let within' : g < length new = omega (arith, within, done.0) in (
      length-set new g y ∙ done.0,
      λ i lt. elim (cases_lt i g) [
        | inl low ↦ rw (other i (λ e. omega (arith, e, low))) (done.1 i low)
        | inr ge ↦ let e : i ≡ g = omega (arith, ge, lt) in rw (e, get_or-set_same new g y [] within') here
      ],
      λ i above. other i (λ e. omega (arith, e, above)) ∙ done.2 i (omega (arith, above)),
    )

-- a batch with one word in all lanes of all groups
pub splat_group : (n k g j : ℕ) → g < n → j < 8 → slice_index (group (replicate n (k ∷ k ∷ k ∷ k ∷ k ∷ k ∷ k ∷ k ∷ [])) g) j ≡ k
splat_group n k g j in_batch lane =
    ap (λ (v : List ℕ). slice_index v j) (get_or-replicate n g (k ∷ k ∷ k ∷ k ∷ k ∷ k ∷ k ∷ k ∷ []) [] in_batch) ∙ splat_lane k j lane
