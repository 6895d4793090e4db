-- Points of which none is bad rise strictly from 0 to the number of leaves, and there are at most 255.
use Rattle.std.proofs.Common.{◌≡◌, ℕ, ◌+◌, ◌^◌, ◌<◌, ◌≤◌, List, [], ◌∷◌, ◌++◌, length, get_or, None, refl, subst, arith, suc, zero}
use Rattle.std.specs.List.Sorted.{IsStrictlyIncreasing}
use Rattle.std.proofs.lemmas.Bool.{lt-ltb}
use Rattle.std.proofs.lemmas.Nat.{pow_pos}
use Rattle.slh_subtrees.specs.Points.{first_bad}
use Rattle.slh_subtrees.proofs.FirstBad.{IsGoodHead, good_head}

rising-cons : (x y : ℕ) (ys : List ℕ) → x < y → IsStrictlyIncreasing (y ∷ ys) → IsStrictlyIncreasing (x ∷ y ∷ ys)
rising-cons x y ys first rest zero b = first
rising-cons x y ys first rest (suc k) b =
    subst (λ v. get_or (y ∷ ys) k 0 < get_or (x ∷ y ∷ ys) v 0) (let e : suc (k + 1) ≡ suc k + 1 = omega arith in e) (rest k (omega arith))

rising-tail : (x : ℕ) (ys : List ℕ) → IsStrictlyIncreasing (x ∷ ys) → IsStrictlyIncreasing ys
rising-tail x ys rising k b =
    subst (λ v. get_or ys k 0 < get_or (x ∷ ys) v 0) (let e : suc k + 1 ≡ suc (k + 1) = omega arith in e) (rising (suc k) (omega arith))

rising-head : (x y : ℕ) (ys : List ℕ) → IsStrictlyIncreasing (x ∷ y ∷ ys) → x < y
rising-head x y ys rising = rising 0 (omega arith)

rising-last : (leaves x : ℕ) (ps : List ℕ) → IsStrictlyIncreasing (x ∷ ps ++ leaves ∷ []) → x < leaves
rising-last leaves x [] rising = rising-head x leaves [] rising
rising-last leaves x (p ∷ ps) rising =
    let first = rising-head x p (ps ++ leaves ∷ []) rising in
    let rest = rising-last leaves p ps (rising-tail x (p ∷ ps ++ leaves ∷ []) rising) in
    omega (arith, first, rest)

pub rising-good : (leaves before at : ℕ) (ps : List ℕ) → before < leaves → at ≤ 255 → first_bad leaves before at ps ≡ None
    → IsStrictlyIncreasing (before ∷ ps ++ leaves ∷ []) × (at + length ps ≤ 255)
rising-good leaves before at [] low few good =
    (λ k b. subst (λ v. get_or (before ∷ leaves ∷ []) v 0 < get_or (before ∷ leaves ∷ []) (v + 1) 0) (let e : 0 ≡ k = omega arith in e) low, omega arith)
rising-good leaves before at (p ∷ ps) low few good =
    let head : IsGoodHead leaves before at p ps = good_head leaves before at p ps good in
    let rest = rising-good leaves p (at + 1) ps head.below (omega (arith, head.few)) head.rest in
    (rising-cons before p (ps ++ leaves ∷ []) head.above rest.0, omega (arith, rest.1))

pub good-rising : (leaves before at : ℕ) (ps : List ℕ) → IsStrictlyIncreasing (before ∷ ps ++ leaves ∷ []) → at + length ps ≤ 255
    → first_bad leaves before at ps ≡ None
good-rising leaves before at [] rising few = refl
good-rising leaves before at (p ∷ ps) rising few =
    let test : at < 255 = omega arith in
    let above : before < p = rising-head before p (ps ++ leaves ∷ []) rising in
    let tail : IsStrictlyIncreasing (p ∷ ps ++ leaves ∷ []) = rising-tail before (p ∷ ps ++ leaves ∷ []) rising in
    let below : p < leaves = rising-last leaves p ps tail in
    rw (lt-ltb at 255 test, lt-ltb before p above, lt-ltb p leaves below) (good-rising leaves p (at + 1) ps tail (omega arith))

-- the same for all points of a tree
pub rising-points : (height : ℕ) (ps : List ℕ) → first_bad (2 ^ height) 0 0 ps ≡ None
    → IsStrictlyIncreasing (0 ∷ ps ++ 2 ^ height ∷ []) × (length ps ≤ 255)
rising-points height ps good =
    let both = rising-good (2 ^ height) 0 0 ps (pow_pos height) (omega arith) good in
    (both.0, omega (arith, both.1))

pub points-rising : (height : ℕ) (ps : List ℕ) → IsStrictlyIncreasing (0 ∷ ps ++ 2 ^ height ∷ []) → length ps ≤ 255
    → first_bad (2 ^ height) 0 0 ps ≡ None
points-rising height ps rising few = good-rising (2 ^ height) 0 0 ps rising (omega arith)
