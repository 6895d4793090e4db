-- The joins of a push, one after another.
use Rattle.std.proofs.Common.{◌≡◌, ℕ, suc, ◌+◌, ◌*◌, ◌<◌, ◌≤◌, List, [], ◌∷◌, ◌++◌, Some, reverse, inl, inr, arith, sym, ◌∙◌, ap, subst, refl}
use Rattle.std.proofs.lemmas.List.{reverse-append}
use Rattle.std.proofs.lemmas.Bool.{cases_eq}
use Rattle.slh_tree.specs.declared.cover.Placed.{Placed}
use Rattle.slh_tree.specs.Tree.{MerkleTree, node, sibling, sibling_index}
use Rattle.slh_tree.specs.Cover.{first_leaf, past_leaf, IsNodeOf, AreSiblings, EndsApart, IsCoverFromEnd, IsCover}
use Rattle.slh_tree.specs.Record.{KnownPath, known, Gains, Completes}
use Rattle.slh_tree.proofs.FromEnd.{from_end, cover_of}
use Rattle.slh_tree.proofs.Blocks.{first-lt-past, begins_before, same_past, past_right_half, first_left_half}
use Rattle.slh_tree.proofs.Covers.{LastAtLeast, last_at_least, cover-le}

-- a list with one element more, reversed
pub reverse_push : (ps : List Placed) (p : Placed) → reverse (ps ++ p ∷ []) ≡ p ∷ reverse ps
reverse_push ps p = reverse-append ps (p ∷ [])

-- The node p has grown out of p0 by joins, which took the nodes from s0 that s lacks.
pub record Joining (t : MerkleTree) (p0 : Placed) (s0 : List Placed) (r0 : KnownPath) (s : List Placed) (p : Placed) (r : KnownPath) : Type 0 where
  pub own : IsNodeOf t p
  pub ends : past_leaf p.z p.i ≡ past_leaf p0.z p0.i
  pub starts : first_leaf p.z p.i ≤ first_leaf p0.z p0.i
  pub covers : (lo : ℕ) → IsCover t lo (first_leaf p0.z p0.i) s0 → IsCover t lo (first_leaf p.z p.i) s
  pub height : r.height ≡ r0.height
  pub leaf : r.leaf ≡ r0.leaf
  pub noted :
      (j : ℕ) →
      j < r0.height →
      j ≤ p.z →
      first_leaf j (sibling_index r0.leaf j) < first_leaf p0.z p0.i →
      past_leaf j (sibling_index r0.leaf j) ≡ past_leaf p0.z p0.i →
      known r j ≡ Some (sibling t r0.leaf j)
  pub kept :
      (j : ℕ) →
      (j < r0.height →
      j ≤ p.z →
      first_leaf j (sibling_index r0.leaf j) < first_leaf p0.z p0.i →
      past_leaf j (sibling_index r0.leaf j) ≡ past_leaf p0.z p0.i →
      ⊥) →
      known r j ≡ known r0 j

-- nothing was joined yet
pub joining_none : (t : MerkleTree) (p0 : Placed) (s0 : List Placed) (r0 : KnownPath) → IsNodeOf t p0 → Joining t p0 s0 r0 s0 p0 r0
joining_none t p0 s0 r0 own = record {
  own = own;
  ends = refl;
  starts = omega arith;
  covers = λ lo c. c;
  height = refl;
  leaf = refl;
  noted = λ j below le before ends. absurd (let b = begins_before j (sibling_index r0.leaf j) p0.z p0.i ends le in omega arith);
  kept = λ j off. refl;
}

-- what `note` says
pub record Notes (p : Placed) (r : KnownPath) (r' : KnownPath) : Type 0 where
  pub height : r'.height ≡ r.height
  pub leaf : r'.leaf ≡ r.leaf
  pub noted : p.z < r.height → p.i ≡ sibling_index r.leaf p.z → known r' p.z ≡ Some p.node.items
  pub kept : (j : ℕ) → (j ≡ p.z → j < r.height → p.i ≡ sibling_index r.leaf j → ⊥) → known r' j ≡ known r j

module _ (t : MerkleTree) (p0 : Placed) (s0 : List Placed) (r0 : KnownPath) (s : List Placed) (p : Placed) (r : KnownPath) (now : Joining t p0 s0 r0 s p r) where
  -- the last node of the stack is the tree's own
  pub left_own : (lo : ℕ) → IsCover t lo (first_leaf p0.z p0.i) s0 → (s' : List Placed) (left : Placed) → s ≡ s' ++ left ∷ [] → IsNodeOf t left
  left_own lo c s' left e =
      let At : List Placed → Type 0 = λ xs. IsCoverFromEnd t lo (first_leaf p.z p.i) xs in
      let back = subst At (ap reverse e ∙ reverse_push s' left) (from_end (now.covers lo c)) in
      back.0

  -- one join more, whose node is noted
  pub joining_more :
      (s' : List Placed) (left p' : Placed) (r' : KnownPath) →
      s ≡ s' ++ left ∷ [] →
      AreSiblings left p →
      IsNodeOf t p' →
      p'.z ≡ p.z + 1 →
      p.i ≡ 2 * p'.i + 1 →
      Notes p' r r' →
      Joining t p0 s0 r0 s' p' r'
  joining_more s' left p' r' e sib own' up odd notes =
      let level : p'.z ≡ suc p.z = omega arith in
      let past' : past_leaf p'.z p'.i ≡ past_leaf p.z p.i =
      ap (λ (z : ℕ). past_leaf z p'.i) level ∙ past_right_half p.z p'.i ∙ ap (past_leaf p.z) (sym odd)
      in
      let half : first_leaf p'.z p'.i ≡ first_leaf p.z (2 * p'.i) = ap (λ (z : ℕ). first_leaf z p'.i) level ∙ first_left_half p.z p'.i in
      let index : 2 * p'.i ≡ left.i = omega (arith, odd, sib.next) in
      let first' : first_leaf left.z left.i ≡ first_leaf p'.z p'.i =
      ap (λ (z : ℕ). first_leaf z left.i) sib.same_height ∙ ap (first_leaf p.z) (sym index) ∙ sym half
      in
      let right : first_leaf p.z p.i ≡ past_leaf p.z (2 * p'.i) = ap (first_leaf p.z) odd in
      let earlier : first_leaf p'.z p'.i < first_leaf p0.z p0.i = omega (arith, half, right, first-lt-past p.z (2 * p'.i), now.starts) in
      let ends' : past_leaf p'.z p'.i ≡ past_leaf p0.z p0.i = past' ∙ now.ends in
      record {
        own = own';
        ends = ends';
        starts = omega arith;
        covers = λ lo c.
            let Back : List Placed → Type 0 = λ xs. IsCoverFromEnd t lo (first_leaf p.z p.i) xs in
            let back = subst Back (ap reverse e ∙ reverse_push s' left) (from_end (now.covers lo c)) in
            let At : ℕ → Type 0 = λ hi. IsCoverFromEnd t lo hi (reverse s') in
            cover_of (subst At first' back.3);
        height = notes.height ∙ now.height;
        leaf = notes.leaf ∙ now.leaf;
        noted = λ j below le before ends.
            elim (cases_eq j p'.z) [
              | inl same ↦
                  let At : ℕ → Type 0 = λ z. past_leaf z p'.i ≡ past_leaf j (sibling_index r0.leaf j) in
                  let here : p'.i ≡ sibling_index r0.leaf j = same_past j p'.i (sibling_index r0.leaf j) (subst At (sym same) (ends' ∙ sym ends)) in
                  let there : p'.i ≡ sibling_index r.leaf p'.z =
                  here ∙ ap (λ (l : ℕ). sibling_index l j) (sym now.leaf) ∙ ap (sibling_index r.leaf) same
                  in
                  ap (known r') same
                  ∙ notes.noted (omega (arith, now.height)) there
                  ∙ ap Some (own'.bytes ∙ ap (λ (z : ℕ). node t z p'.i) (sym same) ∙ ap (node t j) here)
              | inr ne ↦ notes.kept j (λ same b i. ne same) ∙ now.noted j below (omega arith) before ends
            ];
        kept = λ j off.
            notes.kept j (λ same b i.
            let here : sibling_index r0.leaf j ≡ p'.i = ap (λ (l : ℕ). sibling_index l j) (sym now.leaf) ∙ sym i in
            let first_is : first_leaf j (sibling_index r0.leaf j) ≡ first_leaf p'.z p'.i = ap (first_leaf j) here ∙ ap (λ (z : ℕ). first_leaf z p'.i) same in
            let past_is : past_leaf j (sibling_index r0.leaf j) ≡ past_leaf p'.z p'.i = ap (past_leaf j) here ∙ ap (λ (z : ℕ). past_leaf z p'.i) same in
            off (omega (arith, now.height)) (omega arith) (omega arith) (past_is ∙ ends'))
            ∙ now.kept j (λ low le before ends. off low (omega arith) before ends);
      }

  -- nothing more to join
  pub joining_cover : (lo : ℕ) → IsCover t lo (first_leaf p0.z p0.i) s0 → EndsApart (reverse s) p → IsCover t lo (past_leaf p0.z p0.i) (s ++ p ∷ [])
  joining_cover lo c apart =
      let At : List Placed → Type 0 = λ xs. IsCoverFromEnd t lo (past_leaf p0.z p0.i) xs in
      cover_of (subst At (sym (reverse_push s p)) (now.own, now.ends, apart, from_end (now.covers lo c)))

  -- then the nodes that p0 completes are known
  joining_noted : (lo j : ℕ) → IsCover t lo (first_leaf p0.z p0.i) s0 → EndsApart (reverse s) p → j < r0.height → Completes lo p0 r0.leaf j → known r j ≡ Some (sibling t r0.leaf j)
  unfolding LastAtLeast
  joining_noted lo j c apart below done =
      let At : ℕ → Type 0 = λ hi. IsCoverFromEnd t lo hi (p ∷ reverse s) in
      let whole : IsCoverFromEnd t lo (past_leaf p0.z p0.i) (p ∷ reverse s) = (now.own, now.ends, apart, (from_end (now.covers lo c))) in
      let high = last_at_least t lo j (sibling_index r0.leaf j) (p ∷ reverse s) (subst At (sym done.ends) whole) done.from in
      now.noted j below high done.before done.ends

  -- and no others
  joining_kept : (lo j : ℕ) → IsCover t lo (first_leaf p0.z p0.i) s0 → (j < r0.height → Completes lo p0 r0.leaf j → ⊥) → known r j ≡ known r0 j
  joining_kept lo j c off =
      now.kept j (λ below le before ends.
      let b = begins_before j (sibling_index r0.leaf j) p.z p.i (ends ∙ sym now.ends) le in
      let low = cover-le t lo (first_leaf p.z p.i) (reverse s) (from_end (now.covers lo c)) in
      off below (record { from = omega arith; before = before; ends = ends }))

  -- so the record gains exactly these
  pub joining_gained : (lo : ℕ) → IsCover t lo (first_leaf p0.z p0.i) s0 → EndsApart (reverse s) p → Gains t (Completes lo p0 r0.leaf) r0 r
  joining_gained lo c apart = record {
    height = now.height;
    leaf = now.leaf;
    noted = λ j below done. joining_noted lo j c apart below done;
    kept = λ j off. joining_kept lo j c off;
  }
