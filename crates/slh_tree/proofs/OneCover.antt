-- A block of leaves is covered by its one node, and each range by one list of nodes.
use Rattle.std.proofs.Common.{◌≡◌, ℕ, ◌*◌, ◌^◌, ◌≤◌, List, [], ◌∷◌, length, reverse, inl, inr, arith, sym, ◌∙◌, ap, subst, refl}
use Rattle.std.proofs.Math.Pow.{pow_mono}
use Rattle.std.proofs.lemmas.Nat.{pow_pos, pow_below}
use Rattle.std.proofs.lemmas.List.{reverse-reverse, nil_from_length}
use Rattle.std.proofs.lemmas.Bool.{cases_lt}
use Rattle.slh_tree.specs.declared.cover.Placed.{Placed}
use Rattle.slh_tree.specs.Tree.{MerkleTree, node}
use Rattle.slh_tree.specs.Cover.{first_leaf, past_leaf, IsNodeOf, IsCoverFromEnd, IsCover}
use Rattle.slh_tree.proofs.FromEnd.{from_end}
use Rattle.slh_tree.proofs.Blocks.{same_past, past-first, first-lt-past}
use Rattle.slh_tree.proofs.Covers.{LastAtLeast, last_at_least, nothing_before, cover-le}

-- a cover of the whole tree is its root alone
only_from_end : (t : MerkleTree) (ps : List Placed) → IsCoverFromEnd t 0 (2 ^ t.height) ps → (p : Placed) × (ps ≡ p ∷ []) × (p.node.items ≡ node t t.height 0)
unfolding LastAtLeast
only_from_end t [] c = absurd (omega (arith, pow_pos t.height, c))
only_from_end t (p ∷ ps) c =
    let At : ℕ → Type 0 = λ hi. IsCoverFromEnd t 0 hi (p ∷ ps) in
    let whole : 2 ^ t.height ≡ past_leaf t.height 0 = omega arith in
    let high = last_at_least t 0 t.height 0 (p ∷ ps) (subst At whole c) (omega arith) in
    let top : p.z ≡ t.height = omega (arith, c.0.height) in
    let Past : ℕ → Type 0 = λ z. past_leaf z p.i ≡ past_leaf t.height 0 in
    let index : p.i ≡ 0 = same_past t.height p.i 0 (subst Past top (c.1 ∙ whole)) in
    let zero_times : 0 * 2 ^ p.z ≡ 0 = omega arith in
    let from : first_leaf p.z p.i ≡ 0 = ap (first_leaf p.z) index ∙ zero_times in
    let none : length ps ≡ 0 = nothing_before t 0 (first_leaf p.z p.i) ps c.3 from in
    (p, ap (λ (xs : List Placed). p ∷ xs) (nil_from_length ps none), c.0.bytes ∙ ap (λ (z : ℕ). node t z p.i) top ∙ ap (node t t.height) index)

-- the same for a cover as it is
pub only_cover : (t : MerkleTree) (ps : List Placed) → IsCover t 0 (2 ^ t.height) ps → (p : Placed) × (ps ≡ p ∷ []) × (p.node.items ≡ node t t.height 0)
only_cover t ps c =
    let one = only_from_end t (reverse ps) (from_end c) in
    (one.0, sym (reverse-reverse ps) ∙ ap reverse one.1, one.2)

-- an empty range has no nodes
nothing_between : (t : MerkleTree) (lo hi : ℕ) (ps : List Placed) → IsCoverFromEnd t lo hi ps → hi ≤ lo → length ps ≡ 0
nothing_between t lo hi [] c e = refl
nothing_between t lo hi (p ∷ ps) c e = absurd (omega (arith, first-lt-past p.z p.i, c.1, cover-le t lo (first_leaf p.z p.i) ps c.3))

-- a cover of a block is its one node, read from the end
block_from_end : (t : MerkleTree) (z i : ℕ) (ps : List Placed) → IsCoverFromEnd t (first_leaf z i) (past_leaf z i) ps → (p : Placed) × (ps ≡ p ∷ []) × (p.z ≡ z) × (p.i ≡ i)
unfolding LastAtLeast
block_from_end t z i [] c = absurd (omega (arith, first-lt-past z i, c))
block_from_end t z i (p ∷ ps) c =
    let high = last_at_least t (first_leaf z i) z i (p ∷ ps) c (omega arith) in
    let from : first_leaf z i ≤ first_leaf p.z p.i = cover-le t (first_leaf z i) (first_leaf p.z p.i) ps c.3 in
    let height : p.z ≡ z =
    elim (cases_lt z p.z) [
      | inl lt ↦ absurd (omega (arith, past-first z i, past-first p.z p.i, c.1, pow_below z p.z lt))
      | inr ge ↦ omega arith
    ]
    in
    let Past : ℕ → Type 0 = λ w. past_leaf w p.i ≡ past_leaf z i in
    let index : p.i ≡ i = same_past z p.i i (subst Past height c.1) in
    let upto : first_leaf p.z p.i ≤ first_leaf z i = omega (arith, past-first z i, past-first p.z p.i, c.1, pow_mono high) in
    let none : length ps ≡ 0 = nothing_between t (first_leaf z i) (first_leaf p.z p.i) ps c.3 upto in
    (p, ap (λ (xs : List Placed). p ∷ xs) (nil_from_length ps none), height, index)

-- a cover of the leaves below one node is that node
pub block_cover : (t : MerkleTree) (z i lo hi : ℕ) (ps : List Placed) → lo ≡ first_leaf z i → hi ≡ past_leaf z i → IsCover t lo hi ps → (p : Placed) × (ps ≡ p ∷ []) × (p.z ≡ z) × (p.i ≡ i)
block_cover t z i lo hi ps from to c =
    let Lo : ℕ → Type 0 = λ x. IsCoverFromEnd t x hi (reverse ps) in
    let Hi : ℕ → Type 0 = λ x. IsCoverFromEnd t (first_leaf z i) x (reverse ps) in
    let one = block_from_end t z i (reverse ps) (subst Hi to (subst Lo from (from_end c))) in
    (one.0, sym (reverse-reverse ps) ∙ ap reverse one.1, one.2, one.3)

-- two nodes of a tree at one place are the same
same_node : (t : MerkleTree) (p q : Placed) → IsNodeOf t p → IsNodeOf t q → p.z ≡ q.z → p.i ≡ q.i → p ≡ q
same_node t p q own own' height index =
    let bytes : p.node.items ≡ q.node.items = own.bytes ∙ ap (λ (z : ℕ). node t z p.i) height ∙ ap (node t q.z) index ∙ sym own'.bytes in
    let Made : ℕ → ℕ → List ℕ → Placed = λ z i xs. record { z = z; i = i; node = record { items = xs } } in
    ap (λ (z : ℕ). Made z p.i p.node.items) height ∙ ap (λ (i : ℕ). Made q.z i p.node.items) index ∙ ap (Made q.z q.i) bytes

-- two covers of one range agree, read from the end
same_from_end : (t : MerkleTree) (lo hi : ℕ) (ps qs : List Placed) → IsCoverFromEnd t lo hi ps → IsCoverFromEnd t lo hi qs → ps ≡ qs
unfolding LastAtLeast
same_from_end t lo hi [] qs c d = sym (nil_from_length qs (nothing_between t lo hi qs d (omega (arith, c))))
same_from_end t lo hi (p ∷ ps) [] c d = nil_from_length (p ∷ ps) (nothing_between t lo hi (p ∷ ps) c (omega (arith, d)))
same_from_end t lo hi (p ∷ ps) (q ∷ qs) c d =
    let At : List Placed → ℕ → Type 0 = λ xs x. IsCoverFromEnd t lo x xs in
    let low = last_at_least t lo q.z q.i (p ∷ ps) (subst (At (p ∷ ps)) (sym d.1) c) (cover-le t lo (first_leaf q.z q.i) qs d.3) in
    let high = last_at_least t lo p.z p.i (q ∷ qs) (subst (At (q ∷ qs)) (sym c.1) d) (cover-le t lo (first_leaf p.z p.i) ps c.3) in
    let height : p.z ≡ q.z = omega (arith, low, high) in
    let Past : ℕ → Type 0 = λ z. past_leaf z p.i ≡ past_leaf q.z q.i in
    let index : p.i ≡ q.i = same_past q.z p.i q.i (subst Past height (c.1 ∙ sym d.1)) in
    let begins : first_leaf q.z q.i ≡ first_leaf p.z p.i = ap (λ (z : ℕ). first_leaf z q.i) (sym height) ∙ ap (first_leaf p.z) (sym index) in
    let same = same_node t p q c.0 d.0 height index in
    ap (λ (x : Placed). x ∷ ps) same ∙ ap (λ (xs : List Placed). q ∷ xs) (same_from_end t lo (first_leaf p.z p.i) ps qs c.3 (subst (At qs) begins d.3))

-- a range has one cover
pub unique_cover : (t : MerkleTree) (lo hi : ℕ) (ps qs : List Placed) → IsCover t lo hi ps → IsCover t lo hi qs → ps ≡ qs
unique_cover t lo hi ps qs c d =
    sym (reverse-reverse ps) ∙ ap reverse (same_from_end t lo hi (reverse ps) (reverse qs) (from_end c) (from_end d)) ∙ reverse-reverse qs
