-- What a cover's nodes say of each other.
use Rattle.std.proofs.Common.{◌≡◌, ℕ, zero, suc, ◌+◌, ◌-◌, ◌*◌, ◌%◌, ◌^◌, ◌<◌, ◌≤◌, List, [], ◌∷◌, length, reverse, inl, inr, arith, sym, ◌∙◌, ap, subst, refl}
use Rattle.std.proofs.Math.Pow.{pow_mono}
use Rattle.std.proofs.lemmas.List.{length-reverse}
use Rattle.std.proofs.lemmas.Bool.{cases_lt, cases_order}
use Rattle.slh_tree.specs.declared.cover.Placed.{Placed}
use Rattle.slh_tree.specs.Tree.{MerkleTree}
use Rattle.slh_tree.specs.Cover.{first_leaf, past_leaf, AreSiblings, EndsApart, IsCoverFromEnd, IsCover}
use Rattle.slh_tree.proofs.FromEnd.{from_end}
use Rattle.slh_tree.proofs.Blocks.{aligned_even, same_past, cancel, past-first, first-lt-past, past_right_half, first_left_half}

-- a number that is not even is odd
odd_from : (n : ℕ) → (n % 2 ≡ 0 → ⊥) → n % 2 ≡ 1
odd_from n h = omega arith

-- a node before one that is no lower is a right child
pub before_higher : (q p : Placed) → past_leaf q.z q.i ≡ first_leaf p.z p.i → (AreSiblings q p → ⊥) → q.z ≤ p.z → q.i % 2 ≡ 1
before_higher q p e apart le =
    elim (cases_order q.z p.z) [
      | inl same ↦
          let At : ℕ → Type 0 = λ z. past_leaf q.z q.i ≡ first_leaf z p.i in
          let next : q.i + 1 ≡ p.i = cancel (q.i + 1) p.i q.z (subst At (sym same) e) in
          odd_from q.i (λ even. apart (record { same_height = same; left = even; next = sym next }))
      | inr (inl lt) ↦ let even : (q.i + 1) % 2 ≡ 0 = aligned_even (q.i + 1) p.i q.z p.z lt e in omega arith
      | inr (inr gt) ↦ absurd (omega arith)
    ]

-- a node after a higher one is a left child
pub after_higher : (q p : Placed) → past_leaf q.z q.i ≡ first_leaf p.z p.i → p.z < q.z → p.i % 2 ≡ 0
after_higher q p e lt = aligned_even p.i (q.i + 1) p.z q.z lt (sym e)

-- below a right child the heights fall to the left
pub rising-length : (t : MerkleTree) (lo hi : ℕ) (q : Placed) (qs : List Placed) → IsCoverFromEnd t lo hi (q ∷ qs) → q.i % 2 ≡ 1 → length (q ∷ qs) ≤ q.z + 1
rising-length t lo hi q [] c odd = omega arith
rising-length t lo hi q (r ∷ rs) c odd =
    let join = c.3.1 in
    let lower : r.z < q.z =
    elim (cases_lt r.z q.z) [
      | inl h ↦ h
      | inr h ↦
          elim (cases_order r.z q.z) [
            | inl same ↦
                let At : ℕ → Type 0 = λ z. past_leaf r.z r.i ≡ first_leaf z q.i in
                let next : r.i + 1 ≡ q.i = cancel (r.i + 1) q.i r.z (subst At (sym same) join) in
                let odd_too = before_higher r q join c.2 (omega arith) in
                absurd (omega arith)
            | inr (inl lt) ↦ lt
            | inr (inr gt) ↦ absurd (let even = after_higher r q join gt in omega arith)
          ]
    ]
    in
    let odd_left = before_higher r q join c.2 (omega arith) in
    let rest = rising-length t lo (first_leaf q.z q.i) r rs c.3 odd_left in
    omega arith

-- below a peak of height m the nodes are at most two of each height
pub falling-length : (t : MerkleTree) (lo hi m : ℕ) (p : Placed) (ps : List Placed) → IsCoverFromEnd t lo hi (p ∷ ps) → hi ≤ 2 ^ (m + 1) → p.z ≤ m → length (p ∷ ps) + p.z ≤ 2 * m + 2
falling-length t lo hi m p [] c within low = omega arith
falling-length t lo hi m p (q ∷ qs) c within low =
    let join = c.3.1 in
    let short : first_leaf p.z p.i < 2 ^ (m + 1) = omega (arith, first-lt-past p.z p.i, c.1) in
    let q_low : q.z ≤ m =
    elim (cases_lt m q.z) [
      | inl h ↦
          let big : 2 ^ (m + 1) ≤ 2 ^ q.z = pow_mono (let k : m + 1 ≤ q.z = omega arith in k) in
          absurd (omega (arith, past-first q.z q.i, join))
      | inr h ↦ h
    ]
    in
    elim (cases_lt p.z q.z) [
      | inl up ↦ let rest = falling-length t lo (first_leaf p.z p.i) m q qs c.3 (omega arith) q_low in omega arith
      | inr down ↦
          let odd = before_higher q p join c.2 down in
          let rest = rising-length t lo (first_leaf p.z p.i) q qs c.3 odd in
          omega arith
    ]

-- a cover's range is not turned round
pub cover-le : (t : MerkleTree) (lo hi : ℕ) (ps : List Placed) → IsCoverFromEnd t lo hi ps → lo ≤ hi
cover-le t lo hi [] c = omega (arith, c)
cover-le t lo hi (p ∷ ps) c = omega (arith, cover-le t lo (first_leaf p.z p.i) ps c.3, first-lt-past p.z p.i, c.1)

-- a cover that ends with a block of leaves ends with a node that is no lower than the block
unfoldable pub LastAtLeast : ℕ → List Placed → Type 0
LastAtLeast z [] = ⊥
LastAtLeast z (p ∷ ps) = z ≤ p.z

-- a right half after a cover that ends with its left half
halves_apart : (t : MerkleTree) (lo z i : ℕ) (p : Placed) (ps : List Placed) → p.z ≡ z → p.i ≡ 2 * i + 1 → EndsApart ps p → IsCoverFromEnd t lo (past_leaf z (2 * i)) ps → LastAtLeast z ps → ⊥
unfolding LastAtLeast
halves_apart t lo z i p [] pz pi apart c last = last
halves_apart t lo z i p (q ∷ qs) pz pi apart c last =
    elim (cases_lt z q.z) [
      | inl lt ↦ let even : (2 * i + 1) % 2 ≡ 0 = aligned_even (2 * i + 1) (q.i + 1) z q.z lt (sym c.1) in omega arith
      | inr ge ↦
          let same : q.z ≡ z = omega arith in
          let At : ℕ → Type 0 = λ w. past_leaf w q.i ≡ past_leaf z (2 * i) in
          let left : q.i ≡ 2 * i = same_past z q.i (2 * i) (subst At same c.1) in
          apart (record { same_height = same ∙ sym pz; left = omega arith; next = omega arith })
    ]

-- by induction on the height of the block: its right half, then its left half
pub last_at_least : (t : MerkleTree) (lo z i : ℕ) (ps : List Placed) → IsCoverFromEnd t lo (past_leaf z i) ps → lo ≤ first_leaf z i → LastAtLeast z ps
unfolding LastAtLeast
last_at_least t lo z i [] c le = omega (arith, first-lt-past z i, c)
last_at_least t lo zero i (p ∷ ps) c le = omega arith
last_at_least t lo (suc z) i (p ∷ ps) c le =
    let left = first_left_half z i in
    let right_from : lo ≤ first_leaf z (2 * i + 1) = omega (arith, past-first z (2 * i)) in
    let at_right : IsCoverFromEnd t lo (past_leaf z (2 * i + 1)) (p ∷ ps) = (c.0, c.1 ∙ past_right_half z i, c.2, c.3) in
    let low : z ≤ p.z = last_at_least t lo z (2 * i + 1) (p ∷ ps) at_right right_from in
    elim (cases_lt z p.z) [
      | inl lt ↦ omega arith
      | inr ge ↦
          let same : p.z ≡ z = omega arith in
          let At : ℕ → Type 0 = λ w. past_leaf w p.i ≡ past_leaf z (2 * i + 1) in
          let index : p.i ≡ 2 * i + 1 = same_past z p.i (2 * i + 1) (subst At same at_right.1) in
          let begins : first_leaf p.z p.i ≡ past_leaf z (2 * i) = ap (λ (w : ℕ). first_leaf w p.i) same ∙ ap (first_leaf z) index in
          let Left : ℕ → Type 0 = λ h. IsCoverFromEnd t lo h ps in
          let rest : IsCoverFromEnd t lo (past_leaf z (2 * i)) ps = subst Left begins c.3 in
          absurd (halves_apart t lo z i p ps same index c.2 rest (last_at_least t lo z (2 * i) ps rest (omega arith)))
    ]

-- no nodes end where no leaf is
pub nothing_before : (t : MerkleTree) (lo hi : ℕ) (ps : List Placed) → IsCoverFromEnd t lo hi ps → hi ≡ 0 → length ps ≡ 0
nothing_before t lo hi [] c e = refl
nothing_before t lo hi (p ∷ ps) c e = absurd (omega (arith, first-lt-past p.z p.i, c.1))

-- below its highest node a cover has at most two nodes of each height
cover-length_from_end : (t : MerkleTree) (lo hi : ℕ) (ps : List Placed) → IsCoverFromEnd t lo hi ps → hi ≤ 2 ^ t.height → 1 ≤ t.height → length ps ≤ 2 * t.height
cover-length_from_end t lo hi [] c within high = omega arith
cover-length_from_end t lo hi (p ∷ ps) c within high =
    elim (cases_lt p.z t.height) [
      | inl lt ↦
          let peak : t.height - 1 + 1 ≡ t.height = omega arith in
          let bound : hi ≤ 2 ^ (t.height - 1 + 1) = subst (λ (h : ℕ). hi ≤ 2 ^ h) (sym peak) within in
          let all = falling-length t lo hi (t.height - 1) p ps c bound (omega arith) in
          omega arith
      | inr ge ↦
          let whole : 2 ^ t.height ≤ 2 ^ p.z = pow_mono ge in
          let none : length ps ≡ 0 = nothing_before t lo (first_leaf p.z p.i) ps c.3 (omega (arith, past-first p.z p.i, c.1)) in
          omega arith
    ]

-- a cover has at most two nodes of each height
pub cover-length : (t : MerkleTree) (lo hi : ℕ) (ps : List Placed) → IsCover t lo hi ps → hi ≤ 2 ^ t.height → 1 ≤ t.height → length ps ≤ 2 * t.height
cover-length t lo hi ps c within high =
    omega (arith, cover-length_from_end t lo hi (reverse ps) (from_end c) within high, length-reverse ps)
