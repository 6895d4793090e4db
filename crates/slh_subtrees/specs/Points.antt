-- Cut points of a tree, the first leaves of all its ranges but the first: ours.
use Rattle.std.specs.Prelude.{◌≡◌, ℕ, ◌+◌, ◌-◌, ◌*◌, ◌^◌, ◌<◌, ◌&&◌, if◌then◌else◌, nat_lt, List, [], ◌∷◌, map, Option, Some, None}
use Rattle.std.specs.List.{range_with_len}

-- The index of the first point that is not above the one before it or is not below `leaves`, or 255 where all before
-- are good. The list is the rest of the points from the index `at` on, and `before` is the point before it, 0 at the
-- start.
abbrev pub first_bad : ℕ → ℕ → ℕ → List ℕ → Option ℕ
first_bad leaves before at [] = None
first_bad leaves before at (p ∷ ps) =
    (if nat_lt at 255 && (nat_lt before p && nat_lt p leaves) then first_bad leaves p (at + 1) ps else Some at)

-- the points that cut 2 ^ height leaves into 2 ^ level ranges of one size
abbrev pub level_points : ℕ → ℕ → List ℕ
level_points height level = map (λ i. i * 2 ^ (height - level)) (range_with_len 1 (2 ^ level - 1))

-- the ranges from the leaf `first` on: each goes from one point to the next, the last one to the leaf after the last
abbrev pub ranges : ℕ → List ℕ → ℕ → List (ℕ × ℕ)
ranges first [] leaves = (first, leaves) ∷ []
ranges first (p ∷ ps) leaves = (first, p) ∷ ranges p ps leaves

-- the ranges, none of them empty, put end to end are lo .. hi
abbrev pub EndToEnd : ℕ → ℕ → List (ℕ × ℕ) → Type 0
EndToEnd lo hi [] = lo ≡ hi
EndToEnd lo hi (r ∷ rs) = (r.0 ≡ lo) × (r.0 < r.1) × EndToEnd r.1 hi rs
