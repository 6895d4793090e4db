-- The nodes of a cover at their places.
use Rattle.std.proofs.Common.{◌≡◌, ℕ, ◌+◌, ◌-◌, ◌^◌, ◌<◌, ◌≤◌, List, [], ◌∷◌, ◌++◌, length, reverse, take, drop, get_or, arith, sym, ◌∙◌, ap, subst, refl}
use Rattle.std.proofs.Math.Pow.{pow_mono}
use Rattle.std.proofs.lemmas.List.{reverse-append, take-append-drop, drop_more, drop_all, append_assoc}
use Rattle.slh_tree.specs.declared.cover.Placed.{Placed}
use Rattle.slh_tree.specs.Tree.{MerkleTree}
use Rattle.slh_tree.specs.Cover.{first_leaf, past_leaf, IsNodeOf, IsCoverFromEnd, IsCover}
use Rattle.slh_tree.proofs.FromEnd.{from_end, cover_of}
use Rattle.slh_tree.proofs.Blocks.{first-lt-past}

-- the nodes up to one of them, the last first
split_back : (t : MerkleTree) (lo hi : ℕ) (xs : List Placed) (p : Placed) (ys : List Placed) → IsCoverFromEnd t lo hi (xs ++ p ∷ ys) → IsCoverFromEnd t lo (past_leaf p.z p.i) (p ∷ ys) × (past_leaf p.z p.i ≤ hi)
split_back t lo hi [] p ys c = ((c.0, refl, c.2, c.3), omega (arith, c.1))
split_back t lo hi (x ∷ xs) p ys c =
    let rest = split_back t lo (first_leaf x.z x.i) xs p ys c.3 in
    (rest.0, omega (arith, rest.1, first-lt-past x.z x.i, c.1))

-- a list, reversed, around the element at a place
reverse_at : (ps : List Placed) (k : ℕ) (p : Placed) → k < length ps → p ≡ get_or ps k p → reverse ps ≡ reverse (drop (k + 1) ps) ++ p ∷ reverse (take k ps)
reverse_at ps k p within read =
    let parts : take k ps ++ p ∷ drop (k + 1) ps ≡ ps =
    ap (λ (x : Placed). take k ps ++ x ∷ drop (k + 1) ps) read ∙ ap (λ (ys : List Placed). take k ps ++ ys) (sym (drop_more ps k p within)) ∙ take-append-drop k ps
    in
    ap reverse (sym parts)
    ∙ reverse-append (take k ps) (p ∷ drop (k + 1) ps)
    ∙ ap (λ (ys : List Placed). ys ++ reverse (take k ps)) (reverse-append (p ∷ []) (drop (k + 1) ps))
    ∙ append_assoc (reverse (drop (k + 1) ps)) (p ∷ []) (reverse (take k ps))

-- the node at a place of a cover, and the nodes before it
pub record CoverAt (t : MerkleTree) (lo hi : ℕ) (ps : List Placed) (k : ℕ) (p : Placed) : Type 0 where
  pub own : IsNodeOf t p
  pub before : IsCover t lo (first_leaf p.z p.i) (take k ps)
  pub upto : IsCoverFromEnd t lo (past_leaf p.z p.i) (p ∷ reverse (take k ps))
  pub ends : past_leaf p.z p.i ≤ hi

-- each place of a cover
pub cover_at : (t : MerkleTree) (lo hi : ℕ) (ps : List Placed) (k : ℕ) (p : Placed) → IsCover t lo hi ps → k < length ps → p ≡ get_or ps k p → CoverAt t lo hi ps k p
cover_at t lo hi ps k p c within read =
    let At : List Placed → Type 0 = λ xs. IsCoverFromEnd t lo hi xs in
    let parts = split_back t lo hi (reverse (drop (k + 1) ps)) p (reverse (take k ps)) (subst At (reverse_at ps k p within read) (from_end c)) in
    record { own = parts.0.0; before = cover_of parts.0.3; upto = parts.0; ends = parts.1 }

-- the first node begins where the range does
pub cover-first : (t : MerkleTree) (lo hi : ℕ) (ps : List Placed) (p : Placed) → IsCover t lo hi ps → 0 < length ps → p ≡ get_or ps 0 p → first_leaf p.z p.i ≡ lo
cover-first t lo hi ps p c within read = sym (from_end (cover_at t lo hi ps 0 p c within read).before)

-- the last node ends where the range does
pub cover-last : (t : MerkleTree) (lo hi : ℕ) (ps : List Placed) (p : Placed) → IsCover t lo hi ps → 0 < length ps → p ≡ get_or ps (length ps - 1) p → past_leaf p.z p.i ≡ hi
cover-last t lo hi ps p c within read =
    let k : ℕ = length ps - 1 in
    let At : List Placed → Type 0 = λ xs. IsCoverFromEnd t lo hi xs in
    let none : drop (k + 1) ps ≡ [] = drop_all (k + 1) ps (omega arith) in
    let shape : reverse ps ≡ p ∷ reverse (take k ps) =
    reverse_at ps k p (omega arith) read ∙ ap (λ (xs : List Placed). reverse xs ++ p ∷ reverse (take k ps)) none
    in
    (subst At shape (from_end c)).1

-- what a stack says of each node
abbrev pub IsLow : Placed → Type 0
IsLow p = (p.z ≤ 14) × (past_leaf p.z p.i ≤ 2 ^ 14)

-- a node of a tree of height 14 or less
pub low_enough : (t : MerkleTree) (p : Placed) → IsNodeOf t p → t.height ≤ 14 → IsLow p
low_enough t p own low = (omega (arith, own.height), omega (arith, own.within, pow_mono low))
