-- Ranges that lie end to end.
use Rattle.std.proofs.Common.{◌≡◌, ℕ, ◌+◌, ◌^◌, ◌<◌, ◌≤◌, List, [], ◌∷◌, length, get_or, None, refl, arith, suc, zero}
use Rattle.std.proofs.lemmas.Nat.{pow_pos}
use Rattle.slh_subtrees.specs.Points.{first_bad, ranges, EndToEnd}
use Rattle.slh_subtrees.proofs.FirstBad.{IsGoodHead, good_head}

pub end_to_end-ranges : (first leaves at : ℕ) (ps : List ℕ) → first < leaves → first_bad leaves first at ps ≡ None
    → EndToEnd first leaves (ranges first ps leaves)
end_to_end-ranges first leaves at [] some good = (refl, some, refl)
end_to_end-ranges first leaves at (p ∷ ps) some good =
    let parts : IsGoodHead leaves first at p ps = good_head leaves first at p ps good in
    (refl, parts.above, end_to_end-ranges p leaves (at + 1) ps parts.below parts.rest)

-- good points cut a tree into ranges that lie end to end
pub end_to_end-good : (height : ℕ) (ps : List ℕ) → first_bad (2 ^ height) 0 0 ps ≡ None → EndToEnd 0 (2 ^ height) (ranges 0 ps (2 ^ height))
end_to_end-good height ps good = end_to_end-ranges 0 (2 ^ height) 0 ps (pow_pos height) good

pub end_to_end-order : (lo hi : ℕ) (rs : List (ℕ × ℕ)) → EndToEnd lo hi rs → lo ≤ hi
end_to_end-order lo hi [] h = omega arith
end_to_end-order lo hi (r ∷ rs) h =
    let rest = end_to_end-order r.1 hi rs h.2 in
    omega (arith, h.0, h.1, rest)

-- each range has some leaves, and ends where the tree does or before
pub end_to_end-at : (lo hi : ℕ) (rs : List (ℕ × ℕ)) (r : ℕ) (d : ℕ × ℕ) → EndToEnd lo hi rs → r < length rs
    → ((get_or rs r d).0 < (get_or rs r d).1) × ((get_or rs r d).1 ≤ hi)
end_to_end-at lo hi [] r d h here = absurd (omega arith)
end_to_end-at lo hi (q ∷ rs) zero d h here = (h.1, end_to_end-order q.1 hi rs h.2)
end_to_end-at lo hi (q ∷ rs) (suc r) d h here = end_to_end-at q.1 hi rs r d h.2 (omega arith)
