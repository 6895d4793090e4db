-- Which nodes of a leaf's path lie in a block, and what its record gains by them.
use Rattle.std.proofs.Common.{◌≡◌, ◌≢◌, ℕ, suc, ◌+◌, ◌*◌, ◌/◌, ◌%◌, ◌^◌, ◌<◌, ◌≤◌, Some, inl, inr, arith, sym, ◌∙◌, ap, subst, refl}
use Rattle.std.proofs.Math.Nat.{div-eq_of_lt-le, le-div_iff_mul-le, div-lt_iff_lt-mul}
use Rattle.std.proofs.lemmas.Nat.{pow_pos, pow_below}
use Rattle.std.proofs.lemmas.Bool.{cases_lt}
use Rattle.slh_tree.specs.declared.cover.Placed.{Placed}
use Rattle.slh_tree.specs.Tree.{MerkleTree, node, sibling, sibling_index}
use Rattle.slh_tree.specs.Cover.{first_leaf, past_leaf}
use Rattle.slh_tree.specs.Record.{KnownPath, known, Gains, LiesInRange}
use Rattle.slh_tree.proofs.Branch.{xor_even, xor_odd, half_shr}
use Rattle.slh_tree.proofs.Pushing.{Notes}
use Rattle.slh_tree.proofs.Blocks.{cancel, past-first, first-lt-past, past_right_half, first_left_half, lies_inside}

-- a leaf lies below its node of each height
pub own_first : (l z : ℕ) → first_leaf z (l / 2 ^ z) ≤ l
own_first l z = (le-div_iff_mul-le (pow_pos z)).0 (omega arith)

pub own_past : (l z : ℕ) → l < past_leaf z (l / 2 ^ z)
own_past l z = (div-lt_iff_lt-mul (pow_pos z)).0 (omega arith)

-- and below no other node of that height
pub own_index : (l z i : ℕ) → first_leaf z i ≤ l → l < past_leaf z i → l / 2 ^ z ≡ i
own_index l z i from before = div-eq_of_lt-le (2 ^ z) from before

-- a lower block that meets a block ends in it
ends_inside : (z i j s : ℕ) → j ≤ z → first_leaf j s < past_leaf z i → past_leaf j s ≤ past_leaf z i
ends_inside z i j s le before = elim (cases_lt (past_leaf z i) (past_leaf j s)) [
  | inl over ↦ absurd (let next = lies_inside z (i + 1) j s le over in omega arith)
  | inr under ↦ omega arith
]

-- a sibling lies below its parent
sibling_begins : (l j : ℕ) → first_leaf (suc j) (l / 2 ^ suc j) ≤ first_leaf j (sibling_index l j)
sibling_begins l j =
    let q = l / 2 ^ suc j in
    let half : l / 2 ^ j / 2 ≡ q = half_shr l j in
    let left = first_left_half j q in
    let beside : first_leaf j (2 * q + 1) ≡ first_leaf j (2 * q) + 2 ^ j = omega arith in
    elim (cases_lt (l / 2 ^ j % 2) 1) [
      | inl even ↦
          let s : sibling_index l j ≡ 2 * q + 1 = omega (arith, xor_even (l / 2 ^ j) (omega arith), half) in
          omega (arith, ap (first_leaf j) s, left, beside)
      | inr odd ↦
          let s : sibling_index l j ≡ 2 * q = omega (arith, xor_odd (l / 2 ^ j) (omega arith), half) in
          omega (arith, ap (first_leaf j) s, left)
    ]

sibling_ends : (l j : ℕ) → past_leaf j (sibling_index l j) ≤ past_leaf (suc j) (l / 2 ^ suc j)
sibling_ends l j =
    let q = l / 2 ^ suc j in
    let half : l / 2 ^ j / 2 ≡ q = half_shr l j in
    let right = past_right_half j q in
    let beside : past_leaf j (2 * q + 1) ≡ past_leaf j (2 * q) + 2 ^ j = omega arith in
    elim (cases_lt (l / 2 ^ j % 2) 1) [
      | inl even ↦
          let s : sibling_index l j ≡ 2 * q + 1 = omega (arith, xor_even (l / 2 ^ j) (omega arith), half) in
          omega (arith, ap (past_leaf j) s, right)
      | inr odd ↦
          let s : sibling_index l j ≡ 2 * q = omega (arith, xor_odd (l / 2 ^ j) (omega arith), half) in
          omega (arith, ap (past_leaf j) s, right, beside)
    ]

-- no node is its own sibling
other_index : (l j : ℕ) → sibling_index l j ≢ l / 2 ^ j
other_index l j same = elim (cases_lt (l / 2 ^ j % 2) 1) [
  | inl even ↦ absurd (omega (arith, xor_even (l / 2 ^ j) (omega arith), same))
  | inr odd ↦ absurd (omega (arith, xor_odd (l / 2 ^ j) (omega arith), same))
]

-- a node that lies in a block is no higher, and where it is as high it is the block's
no_higher : (z i j s : ℕ) → first_leaf z i ≤ first_leaf j s → past_leaf j s ≤ past_leaf z i → j ≤ z
no_higher z i j s from to = elim (cases_lt z j) [
  | inl lt ↦ absurd (omega (arith, past-first z i, past-first j s, pow_below z j lt))
  | inr ge ↦ omega arith
]

as_high : (z i s : ℕ) → first_leaf z i ≤ first_leaf z s → past_leaf z s ≤ past_leaf z i → s ≡ i
as_high z i s from to = cancel s i z (omega (arith, past-first z i, past-first z s))

-- below a node over the leaf lie all lower nodes of its path
pub below_own : (l z i j : ℕ) → l / 2 ^ z ≡ i → j < z → LiesInRange (first_leaf z i) (past_leaf z i) l j
below_own l z i j own lt =
    let q = l / 2 ^ suc j in
    let low : suc j ≤ z = omega arith in
    let first : first_leaf z i ≤ l = omega (arith, ap (first_leaf z) own, own_first l z) in
    let past : l < past_leaf z i = omega (arith, ap (past_leaf z) own, own_past l z) in
    let from = lies_inside z i (suc j) q low (omega (arith, own_past l (suc j))) in
    let to = ends_inside z i (suc j) q low (omega (arith, own_first l (suc j))) in
    record { from = omega (arith, sibling_begins l j); to = omega (arith, sibling_ends l j) }

-- and no others
pub only_below_own : (l z i j : ℕ) → l / 2 ^ z ≡ i → LiesInRange (first_leaf z i) (past_leaf z i) l j → j < z
only_below_own l z i j own lies =
    let le = no_higher z i j (sibling_index l j) lies.from lies.to in
    elim (cases_lt j z) [
      | inl lt ↦ lt
      | inr ge ↦
          let high : z ≡ j = omega arith in
          let Lies : ℕ → Type 0 = λ k. LiesInRange (first_leaf z i) (past_leaf z i) l k in
          let same = subst Lies (sym high) lies in
          absurd (other_index l z (as_high z i (sibling_index l z) same.from same.to ∙ sym own))
    ]

-- in a block without the leaf lies none but the block's own node
pub beside_own : (l z i j : ℕ) → l / 2 ^ z ≢ i → LiesInRange (first_leaf z i) (past_leaf z i) l j → (j ≡ z) × (i ≡ sibling_index l z)
beside_own l z i j other lies =
    let s = sibling_index l j in
    let le = no_higher z i j s lies.from lies.to in
    elim (cases_lt j z) [
      | inl lt ↦
          let q = l / 2 ^ suc j in
          let low : suc j ≤ z = omega arith in
          let meets = first-lt-past j s in
          let from = lies_inside z i (suc j) q low (omega (arith, lies.from, sibling_ends l j, meets)) in
          let to = ends_inside z i (suc j) q low (omega (arith, lies.to, sibling_begins l j, meets)) in
          absurd (other (own_index l z i (omega (arith, own_first l (suc j))) (omega (arith, own_past l (suc j)))))
      | inr ge ↦
          let high : j ≡ z = omega arith in
          let Lies : ℕ → Type 0 = λ k. LiesInRange (first_leaf z i) (past_leaf z i) l k in
          let same = subst Lies high lies in
          (high, sym (as_high z i (sibling_index l z) same.from same.to))
    ]

-- ---- what a record gains

-- nothing is known yet of the heights below 0
pub gains_none : (t : MerkleTree) (r : KnownPath) → Gains t (λ j. j < 0) r r
gains_none t r = record { height = refl; leaf = refl; noted = λ j below lt. absurd (omega arith); kept = λ j off. refl }

-- the path's node of the next height is noted
pub gains_sibling : (t : MerkleTree) (k : ℕ) (r0 r r1 : KnownPath) (p : Placed) → p.z ≡ k → p.i ≡ sibling_index r0.leaf k → p.node.items ≡ sibling t r0.leaf k → Gains t (λ j. j < k) r0 r → Notes p r r1 → Gains t (λ j. j < k + 1) r0 r1
gains_sibling t k r0 r r1 p pz pi bytes now note = record {
  height = note.height ∙ now.height;
  leaf = note.leaf ∙ now.leaf;
  noted = λ j below lt. elim (cases_lt j k) [
    | inl old ↦ note.kept j (λ jz low here. omega (arith, jz, pz)) ∙ now.noted j below old
    | inr ge ↦
        let jk : j ≡ k = omega arith in
        let here : p.i ≡ sibling_index r.leaf p.z =
        pi ∙ ap (λ l. sibling_index l k) (sym now.leaf) ∙ ap (sibling_index r.leaf) (sym pz) in
        ap (known r1) (jk ∙ sym pz) ∙ note.noted (omega (arith, now.height, pz)) here ∙ ap Some (bytes ∙ ap (sibling t r0.leaf) (sym jk))
  ];
  kept = λ j off.
      note.kept j (λ jz below here. off (omega (arith, now.height)) (omega (arith, jz, pz))) ∙ now.kept j (λ below lt. off below (omega arith));
}

-- of a block with the leaf the path's nodes below are all
pub gains_own : (t : MerkleTree) (z i : ℕ) (r0 r r1 : KnownPath) (p : Placed) → p.z ≡ z → p.i ≡ i → r0.leaf / 2 ^ z ≡ i → Gains t (λ j. j < z) r0 r → Notes p r r1 → Gains t (LiesInRange (first_leaf z i) (past_leaf z i) r0.leaf) r0 r1
gains_own t z i r0 r r1 p pz pi own now note = record {
  height = note.height ∙ now.height;
  leaf = note.leaf ∙ now.leaf;
  noted = λ j below lies.
      let lt = only_below_own r0.leaf z i j own lies in
      note.kept j (λ jz low here. omega (arith, jz, pz, lt)) ∙ now.noted j below lt;
  kept = λ j off.
      note.kept j (λ jz below here.
      let index : sibling_index r0.leaf z ≡ p.i = ap (sibling_index r0.leaf) (sym (jz ∙ pz)) ∙ ap (λ l. sibling_index l j) (sym now.leaf) ∙ sym here in
      other_index r0.leaf z (index ∙ pi ∙ sym own))
      ∙ now.kept j (λ below lt. off below (below_own r0.leaf z i j own lt));
}

-- of a block without it the block's own node
pub gains_beside : (t : MerkleTree) (z i : ℕ) (r0 r1 : KnownPath) (p : Placed) → p.z ≡ z → p.i ≡ i → p.node.items ≡ node t z i → r0.leaf / 2 ^ z ≢ i → Notes p r0 r1 → Gains t (LiesInRange (first_leaf z i) (past_leaf z i) r0.leaf) r0 r1
gains_beside t z i r0 r1 p pz pi bytes other note = record {
  height = note.height;
  leaf = note.leaf;
  noted = λ j below lies.
      let b = beside_own r0.leaf z i j other lies in
      ap (known r1) (b.0 ∙ sym pz)
      ∙ note.noted (omega (arith, b.0, pz)) (pi ∙ b.1 ∙ ap (sibling_index r0.leaf) (sym pz))
      ∙ ap Some (bytes ∙ ap (node t z) b.1 ∙ ap (sibling t r0.leaf) (sym b.0));
  kept = λ j off. note.kept j (λ jz below here.
      let index : sibling_index r0.leaf j ≡ i = sym here ∙ pi in
      let height : j ≡ z = jz ∙ pz in
      off below (record {
        from = omega (arith, ap (first_leaf j) index, ap (λ k. first_leaf k i) height);
        to = omega (arith, ap (past_leaf j) index, ap (λ k. past_leaf k i) height);
      }));
}
