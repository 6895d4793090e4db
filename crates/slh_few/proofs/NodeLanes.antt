-- Nodes that are joined in lanes.
use Rattle.std.proofs.Common.{◌≡◌, ℕ, zero, suc, ◌+◌, ◌-◌, ◌*◌, ◌^◌, ◌≤◌, ◌<◌, List, inl, inr, lit≤, arith, ap, ap₂, refl, subst, sym, ◌∙◌}
use Rattle.std.proofs.Math.Nat.{pow-le-pow_right}
use Rattle.std.proofs.lemmas.Bool.{cases_lt}
use Rattle.std.proofs.lemmas.Nat.{pow-add}
use Rattle.slh_params.specs.declared.param_set.ParamSet.{ParamSet}
use Rattle.slh_params.specs.ParamSet.{params}
use Rattle.slh_params.proofs.Bounds.{a_high}
use Rattle.slh_lanes.specs.Lanes.{value_at}
use Rattle.slh_tree.specs.Tree.{MerkleTree, node}
use Rattle.slh_few.specs.LaneValues.{AreJoins, AreNodes}

-- a node above the leaves
pub node_above : (t : MerkleTree) (z i : ℕ) → 1 ≤ z → node t z i ≡ t.join z i (node t (z - 1) (2 * i)) (node t (z - 1) (2 * i + 1))
unfolding node
node_above t zero i low = absurd (omega arith)
node_above t (suc z) i low =
    let e : z ≡ suc z - 1 = omega arith in
    ap (λ (k : ℕ). t.join (suc z) i (node t k (2 * i)) (node t k (2 * i + 1))) e

-- the join of two nodes of one height that stand side by side
pub joined : (t : MerkleTree) (z y i k : ℕ) (a b : List ℕ) → 1 ≤ z → y ≡ z - 1 → k ≡ 2 * i → a ≡ node t y k → b ≡ node t y (k + 1)
    → t.join z i a b ≡ node t z i
joined t z y i k a b low below left ea eb =
    let el : node t y k ≡ node t (z - 1) (2 * i) = λ q. node t (below q) (left q) in
    let er : node t y (k + 1) ≡ node t (z - 1) (2 * i + 1) = λ q. node t (below q) (left q + 1) in
    ap₂ (t.join z i) (ea ∙ el) (eb ∙ er) ∙ sym (node_above t z i low)

-- the joins of the even and the odd lanes of two times eight
pub joined_lanes : (join : ℕ → List ℕ → List ℕ → List ℕ) (n i : ℕ) (left right even odd lanes : List (List ℕ))
    → ((j : ℕ) → j < 8 → value_at lanes j n ≡ join (i + j) (value_at even j n) (value_at odd j n))
    → ((j n : ℕ) → j < 4 → value_at even j n ≡ value_at left (2 * j) n) → ((j n : ℕ) → j < 4 → value_at even (j + 4) n ≡ value_at right (2 * j) n)
    → ((j n : ℕ) → j < 4 → value_at odd j n ≡ value_at left (2 * j + 1) n) → ((j n : ℕ) → j < 4 → value_at odd (j + 4) n ≡ value_at right (2 * j + 1) n)
    → AreJoins join n i left right lanes
joined_lanes join n i left right even odd lanes made even_low even_high odd_low odd_high = record {
  low = λ j lane. made j (omega arith) ∙ ap₂ (join (i + j)) (even_low j n lane) (odd_low j n lane);
  high = λ j lane. made (j + 4) (omega arith) ∙ ap₂ (join (i + (j + 4))) (even_high j n lane) (odd_high j n lane);
}

-- the joins of sixteen nodes that stand side by side
pub nodes_above : (t : MerkleTree) (n z i k : ℕ) (left right lanes : List (List ℕ)) → 1 ≤ z → k ≡ 2 * i
    → AreNodes t n (z - 1) k left → AreNodes t n (z - 1) (k + 8) right → AreJoins (t.join z) n i left right lanes → AreNodes t n z i lanes
nodes_above t n z i k left right lanes low at first last made = λ j lane.
    elim (cases_lt j 4) [
      | inl lt ↦
          let here : k + 2 * j ≡ 2 * (i + j) = omega (arith, at) in
          let next : k + (2 * j + 1) ≡ k + 2 * j + 1 = omega arith in
          made.low j lt
          ∙ joined t z (z - 1) (i + j) (k + 2 * j) _ _ low refl here
          (first (2 * j) (omega arith)) (first (2 * j + 1) (omega arith) ∙ ap (node t (z - 1)) next)
      | inr ge ↦
          let m : ℕ = j - 4 in
          let back : m + 4 ≡ j = omega arith in
          let lt : m < 4 = omega arith in
          let here : k + 8 + 2 * m ≡ 2 * (i + (m + 4)) = omega (arith, at) in
          let next : k + 8 + (2 * m + 1) ≡ k + 8 + 2 * m + 1 = omega arith in
          let Made : ℕ → Type 0 = λ q. value_at lanes q n ≡ node t z (i + q) in
          subst Made back
          (made.high m lt
          ∙ joined t z (z - 1) (i + (m + 4)) (k + 8 + 2 * m) _ _ low refl here
          (last (2 * m) (omega arith)) (last (2 * m + 1) (omega arith) ∙ ap (node t (z - 1)) next))
    ]

-- one height down there are twice as many nodes
pub twice : (a z : ℕ) → 1 ≤ z → z ≤ a → 2 ^ (a - (z - 1)) ≡ 2 * 2 ^ (a - z)
twice a z low high =
    let e : a - (z - 1) ≡ 1 + (a - z) = omega arith in
    ap (λ (k : ℕ). 2 ^ k) e ∙ pow-add 2 1 (a - z)

-- a height has no more nodes than the highest tree has leaves
pub few_nodes : (s : ParamSet) (z : ℕ) → 2 ^ ((params s).a - z) ≤ 2 ^ 14
few_nodes s z =
    let short : (params s).a - z ≤ 14 = omega (arith, a_high s) in
    pow-le-pow_right {n = 2} (lit≤ tt) short
