-- One leaf more of a range.
use Rattle.std.proofs.Common.{◌≡◌, ℕ, zero, suc, ◌+◌, ◌*◌, ◌^◌, ◌≤◌, Some, inl, inr, arith, sym, ◌∙◌, ap, subst, refl}
use Rattle.std.proofs.Math.Pow.{pow_mono}
use Rattle.std.proofs.lemmas.Bool.{cases_lt}
use Rattle.slh_tree.specs.declared.cover.Placed.{Placed}
use Rattle.slh_tree.specs.Tree.{MerkleTree, node, sibling, sibling_index}
use Rattle.slh_tree.specs.Cover.{first_leaf, past_leaf}
use Rattle.slh_tree.specs.Record.{KnownPath, known, Gains, Completes, LiesInRange}
use Rattle.slh_tree.proofs.Blocks.{past-first}
use Rattle.slh_tree.proofs.Authentic.{node-leaf}
use Rattle.slh_tree.proofs.Pushing.{Notes}

-- the record r knows what r0 did, and the path's nodes over lo .. hi alone
abbrev pub Hashed : MerkleTree → ℕ → ℕ → KnownPath → KnownPath → Type 0
Hashed t lo hi r0 r = Gains t (LiesInRange lo hi r0.leaf) r0 r

-- what `push` says of the record
abbrev pub Pushed : MerkleTree → ℕ → Placed → KnownPath → KnownPath → Type 0
Pushed t lo p r r' = Gains t (Completes lo p r.leaf) r r'

-- a node over one leaf is a leaf
lone_leaf : (j s i : ℕ) → i ≤ first_leaf j s → past_leaf j s ≤ i + 1 → j ≡ 0
lone_leaf zero s i from to = refl
lone_leaf (suc j) s i from to =
    let two : 2 ^ 1 ≤ 2 ^ suc j = pow_mono (let k : 1 ≤ suc j = omega arith in k) in
    absurd (omega (arith, past-first (suc j) s))

-- one leaf more is noted and pushed
pub hashed_more : (t : MerkleTree) (lo i : ℕ) (r0 r r1 r2 : KnownPath) (p : Placed) → p.z ≡ 0 → p.i ≡ i → p.node.items ≡ t.leaf i → lo ≤ i → Hashed t lo i r0 r → Notes p r r1 → Pushed t lo p r1 r2 → Hashed t lo (i + 1) r0 r2
hashed_more t lo i r0 r r1 r2 p pz pi bytes le now note push =
    let first : first_leaf p.z p.i ≡ i = ap (λ (z : ℕ). first_leaf z p.i) pz ∙ (let e : p.i * 2 ^ 0 ≡ i = omega arith in e) in
    let past : past_leaf p.z p.i ≡ i + 1 = ap (λ (z : ℕ). past_leaf z p.i) pz ∙ (let e : (p.i + 1) * 2 ^ 0 ≡ i + 1 = omega arith in e) in
    let leaf : r1.leaf ≡ r0.leaf = note.leaf ∙ now.leaf in
    let At : (j : ℕ) → (l : ℕ) → Type 0 = λ j l. Completes lo p l j in
    -- neither the leaf nor a node that ends with it
    let same_before : (j : ℕ) → (past_leaf j (sibling_index r0.leaf j) ≡ i + 1 → ⊥) → known r2 j ≡ known r j =
    λ j off.
    push.kept j (λ below done. off (let d = subst (At j) leaf done in d.ends ∙ past))
    ∙ note.kept j (λ jz below here.
    let index : sibling_index r0.leaf j ≡ p.i = ap (λ (l : ℕ). sibling_index l j) (sym now.leaf) ∙ sym here in
    off (ap (past_leaf j) index ∙ ap (λ (z : ℕ). past_leaf z p.i) jz ∙ past))
    in
    record {
      height = push.height ∙ note.height ∙ now.height;
      leaf = push.leaf ∙ leaf;
      noted = λ j below lies.
          elim (cases_lt i (past_leaf j (sibling_index r0.leaf j))) [
            | inr early ↦
                same_before j (λ e. omega arith) ∙ now.noted j below (record { from = lies.from; to = early })
            | inl late ↦
                let ends : past_leaf j (sibling_index r0.leaf j) ≡ i + 1 = omega (arith, lies.to) in
                elim (cases_lt (first_leaf j (sibling_index r0.leaf j)) i) [
                  | inl wide ↦
                      let done : Completes lo p r0.leaf j = record { from = lies.from; before = omega arith; ends = ends ∙ sym past } in
                      push.noted j (omega (arith, note.height, now.height)) (subst (At j) (sym leaf) done) ∙ ap (λ (l : ℕ). Some (sibling t l j)) leaf
                  | inr narrow ↦
                      let bottom : j ≡ 0 = lone_leaf j (sibling_index r0.leaf j) i narrow lies.to in
                      let First : ℕ → Type 0 = λ z. past_leaf z (sibling_index r0.leaf j) ≡ i + 1 in
                      let low : past_leaf 0 (sibling_index r0.leaf j) ≡ i + 1 = subst First bottom ends in
                      let index : sibling_index r0.leaf j ≡ i = omega arith in
                      let jz : j ≡ p.z = bottom ∙ sym pz in
                      let here : p.i ≡ sibling_index r.leaf p.z =
                      pi ∙ sym index ∙ ap (λ (l : ℕ). sibling_index l j) (sym now.leaf) ∙ ap (sibling_index r.leaf) jz
                      in
                      push.kept j (λ _ done. let d = subst (At j) leaf done in omega (arith, d.before))
                      ∙ ap (known r1) jz
                      ∙ note.noted (omega (arith, now.height)) here
                      ∙ ap Some (bytes ∙ ap t.leaf (sym index) ∙ sym (node-leaf t (sibling_index r0.leaf j)) ∙ ap (λ (z : ℕ). node t z (sibling_index r0.leaf j)) (sym bottom))
                ]
          ];
      kept = λ j off.
          push.kept j (λ low done. let d = subst (At j) leaf done in off (omega (arith, note.height, now.height)) (record { from = d.from; to = omega (arith, d.ends) }))
          ∙ note.kept j (λ jz below here.
          let index : sibling_index r0.leaf j ≡ p.i = ap (λ (l : ℕ). sibling_index l j) (sym now.leaf) ∙ sym here in
          let first_is : first_leaf j (sibling_index r0.leaf j) ≡ i = ap (first_leaf j) index ∙ ap (λ (z : ℕ). first_leaf z p.i) jz ∙ first in
          let past_is : past_leaf j (sibling_index r0.leaf j) ≡ i + 1 = ap (past_leaf j) index ∙ ap (λ (z : ℕ). past_leaf z p.i) jz ∙ past in
          off (omega (arith, now.height)) (record { from = omega arith; to = omega arith }))
          ∙ now.kept j (λ low lies. off low (record { from = lies.from; to = omega (arith, lies.to) }));
    }
