-- The ranges that points cut a tree into.
use Rattle.std.proofs.Common.{◌≡◌, ℕ, ◌+◌, ◌<◌, List, [], ◌∷◌, ◌++◌, length, get_or, refl, arith, suc, zero}
use Rattle.slh_subtrees.specs.Points.{ranges}

pub length-ranges : (first : ℕ) (ps : List ℕ) (leaves : ℕ) → length (ranges first ps leaves) ≡ length ps + 1
length-ranges first [] leaves = refl
length-ranges first (p ∷ ps) leaves = omega (arith, length-ranges p ps leaves)

-- the first leaf of range r: 0 or the point before it
pub lo-ranges : (first : ℕ) (ps : List ℕ) (leaves r : ℕ) (d : ℕ × ℕ) → r < length ps + 1 → (get_or (ranges first ps leaves) r d).0 ≡ get_or (first ∷ ps) r 0
lo-ranges first [] leaves zero d h = refl
lo-ranges first [] leaves (suc r) d h = absurd (omega arith)
lo-ranges first (p ∷ ps) leaves zero d h = refl
lo-ranges first (p ∷ ps) leaves (suc r) d h = lo-ranges p ps leaves r d (omega arith)

-- the leaf after range r: the point after it or the end
pub hi-ranges : (first : ℕ) (ps : List ℕ) (leaves r : ℕ) (d : ℕ × ℕ) → r < length ps + 1 → (get_or (ranges first ps leaves) r d).1 ≡ get_or (ps ++ leaves ∷ []) r 0
hi-ranges first [] leaves zero d h = refl
hi-ranges first [] leaves (suc r) d h = absurd (omega arith)
hi-ranges first (p ∷ ps) leaves zero d h = refl
hi-ranges first (p ∷ ps) leaves (suc r) d h = hi-ranges p ps leaves r d (omega arith)
