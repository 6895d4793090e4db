-- What a record knows after a node is kept.
use Rattle.std.proofs.Common.{◌≡◌, ◌≢◌, ℕ, ◌<◌, List, Option, Some, None, length, map, get_or, set, ap, ◌∙◌, arith}
use Rattle.std.proofs.lemmas.List.{map-set, length-map, get_or-set_same, get_or-set_other}
use Rattle.arrayvec.specs.ArrayVec.{ArrayVec}
use Rattle.slh_tree.specs.Record.{bytes_of}

-- the node that was kept is known
pub known-set_same : (xs : List (Option (ArrayVec ℕ))) (j : ℕ) (node : ArrayVec ℕ) → j < length xs → get_or (map bytes_of (set xs j (Some node))) j None ≡ Some node.items
known-set_same xs j node within =
    let fits : j < length (map bytes_of xs) = omega (arith, length-map xs bytes_of) in
    ap (λ (ys : List (Option (List ℕ))). get_or ys j None) (map-set bytes_of xs j (Some node))
    ∙ get_or-set_same (map bytes_of xs) j (Some node.items) None fits

-- the others stay
pub known-set_other : (xs : List (Option (ArrayVec ℕ))) (i j : ℕ) (node : ArrayVec ℕ) → j ≢ i → get_or (map bytes_of (set xs i (Some node))) j None ≡ get_or (map bytes_of xs) j None
known-set_other xs i j node apart =
    ap (λ (ys : List (Option (List ℕ))). get_or ys j None) (map-set bytes_of xs i (Some node))
    ∙ get_or-set_other (map bytes_of xs) i j (Some node.items) None apart
