-- The points of equal ranges.
use Rattle.std.proofs.Common.{◌≡◌, ℕ, ◌+◌, ◌-◌, ◌*◌, ◌^◌, ◌<◌, ◌≤◌, List, [], ◌∷◌, ◌++◌, map, None, sym, refl, ◌∙◌, ap, subst, arith, suc, zero}
use Rattle.std.specs.List.{range_with_len}
use Rattle.std.proofs.lemmas.Bool.{lt-ltb}
use Rattle.std.proofs.lemmas.List.FromFn.{map-range_with_len_more}
use Rattle.std.proofs.lemmas.Nat.{pow-add, pow_pos}
use Rattle.std.proofs.Math.Nat.{pow-le-pow_right}
use Rattle.slh_subtrees.specs.Points.{first_bad, level_points, ranges}

pub points_more : (size i : ℕ) (xs ys : List ℕ) → 1 ≤ i → xs ≡ map (λ j. j * size) (range_with_len 1 (i - 1)) → ys ≡ xs ++ i * size ∷ []
    → ys ≡ map (λ j. j * size) (range_with_len 1 (i + 1 - 1))
points_more size i xs ys low e f =
    f ∙ ap (λ v. v ++ i * size ∷ []) e ∙ sym (map-range_with_len_more (λ j. j * size) 1 (i - 1) i (omega arith))
    ∙ ap (λ v. map (λ j. j * size) (range_with_len 1 v)) (let q : i - 1 + 1 ≡ i + 1 - 1 = omega arith in q)

-- multiples of a size, one after the other, are good points
multiples_good : (size leaves at n : ℕ) → 0 < size → at + n ≤ 255 → (at + 1 + n) * size ≤ leaves
    → first_bad leaves (at * size) at (map (λ j. j * size) (range_with_len (at + 1) n)) ≡ None
multiples_good size leaves at zero some few within = refl
multiples_good size leaves at (suc n) some few within =
    let test : at < 255 = omega arith in
    let above : at * size < (at + 1) * size = omega arith in
    let below : (at + 1) * size < leaves = omega arith in
    rw (lt-ltb at 255 test, lt-ltb (at * size) ((at + 1) * size) above, lt-ltb ((at + 1) * size) leaves below)
    (multiples_good size leaves (at + 1) n some (omega arith) (omega arith))

-- equal ranges have good points
pub levels_good : (height level : ℕ) → level ≤ height → level ≤ 8 → first_bad (2 ^ height) 0 0 (level_points height level) ≡ None
levels_good height level low few =
    let size = 2 ^ (height - level) in
    let count : 2 ^ level ≤ 2 ^ 8 = pow-le-pow_right {n = 2} (omega arith) {i = level} {j = 8} (omega arith) in
    let some : 0 < 2 ^ level = pow_pos level in
    let all : 2 ^ height ≡ 2 ^ level * size = ap (λ v. 2 ^ v) (let q : height ≡ level + (height - level) = omega arith in q) ∙ pow-add 2 level (height - level) in
    let fits : (0 + 1 + (2 ^ level - 1)) * size ≤ 2 ^ height =
    omega (arith, all, ap (λ v. v * size) (let e : 0 + 1 + (2 ^ level - 1) ≡ 2 ^ level = omega (arith, some) in e)) in
    let good = multiples_good size (2 ^ height) 0 (2 ^ level - 1) (pow_pos (height - level)) (omega arith) fits in
    subst (λ v. first_bad (2 ^ height) v 0 (level_points height level) ≡ None) (let z : 0 * size ≡ 0 = omega arith in z) good

-- equal ranges, one after the other
even_ranges : (size at n end : ℕ) → end ≡ (at + 1 + n) * size
    → ranges (at * size) (map (λ i. i * size) (range_with_len (at + 1) n)) end ≡ map (λ i. (i * size, (i + 1) * size)) (range_with_len at (n + 1))
even_ranges size at zero end is =
    ap (λ v. (at * size, v) ∷ []) (is ∙ (let e : (at + 1 + 0) * size ≡ (at + 1) * size = omega arith in e))
even_ranges size at (suc n) end is =
    ap (λ v. (at * size, (at + 1) * size) ∷ v) (even_ranges size (at + 1) n end (is ∙ (let e : (at + 1 + suc n) * size ≡ (at + 1 + 1 + n) * size = omega arith in e)))
    ∙ ap (λ v. map (λ i. (i * size, (i + 1) * size)) (range_with_len at v)) (let e : suc (n + 1) ≡ suc n + 1 = omega arith in e)

-- all leaves are those of 2 ^ level ranges
leaves_by_levels : (height level : ℕ) → level ≤ height → 2 ^ height ≡ (0 + 1 + (2 ^ level - 1)) * 2 ^ (height - level)
leaves_by_levels height level low =
    let some : 0 < 2 ^ level = pow_pos level in
    ap (λ v. 2 ^ v) (let q : height ≡ level + (height - level) = omega arith in q) ∙ pow-add 2 level (height - level)
    ∙ ap (λ v. v * 2 ^ (height - level)) (let e : 2 ^ level ≡ 0 + 1 + (2 ^ level - 1) = omega arith in e)

pub ranges-level_points : (height level : ℕ) → level ≤ height
    → ranges 0 (level_points height level) (2 ^ height) ≡ map (λ i. (i * 2 ^ (height - level), (i + 1) * 2 ^ (height - level))) (range_with_len 0 (2 ^ level))
ranges-level_points height level low =
    let size = 2 ^ (height - level) in
    let some : 0 < 2 ^ level = pow_pos level in
    ap (λ v. ranges v (level_points height level) (2 ^ height)) (let z : 0 ≡ 0 * size = omega arith in z)
    ∙ even_ranges size 0 (2 ^ level - 1) (2 ^ height) (leaves_by_levels height level low)
    ∙ ap (λ v. map (λ i. (i * size, (i + 1) * size)) (range_with_len 0 v)) (let e : 2 ^ level - 1 + 1 ≡ 2 ^ level = omega arith in e)
