-- Climbing from a leaf along its path gives the root.
use Rattle.std.proofs.Common.{◌≡◌, ℕ, zero, suc, ◌+◌, ◌-◌, ◌*◌, ◌/◌, ◌%◌, ◌^◌, ◌<◌, ◌≤◌, eqb, add-one, bit_xor, List, ◌++◌, length, take, drop, ◌⊎◌, arith, sym, ◌∙◌, ap, subst, refl, inl, inr}
use Rattle.std.proofs.Math.Nat.{mul-le-mul_right, div-eq_of_lt}
use Rattle.std.proofs.lemmas.Bool.{cond-true, cond-false, ne_eqb, eq-eqb, cases_lt}
use Rattle.std.proofs.lemmas.List.{take-append-le, drop-append-le, length-append, length-drop, drop_at, take_all}
use Rattle.slh_tree.specs.Tree.{MerkleTree, Lawful, node, sibling, sibling_index}
use Rattle.slh_tree.specs.Climb.{path_below, climb_to, parent, path_node, climb, path}
use Rattle.slh_tree.proofs.Branch.{xor_even, xor_odd, half_shr}

-- the definition of a node at the leaves
pub node-leaf : (t : MerkleTree) (i : ℕ) → node t 0 i ≡ t.leaf i
unfolding node
node-leaf t i = refl

-- the definition of a node above the leaves
pub node-join : (t : MerkleTree) (z i : ℕ) → node t (suc z) i ≡ t.join (suc z) i (node t z (2 * i)) (node t z (2 * i + 1))
unfolding node
node-join t z i = refl

-- every node has the length of the tree's nodes
pub node_width : (t : MerkleTree) → Lawful t → (z i : ℕ) → length (node t z i) ≡ t.width
unfolding node
node_width t law zero i = law.leaf_width i
node_width t law (suc z) i = law.join_width (suc z) i _ _

-- an index is even or odd
even_or_odd : (n : ℕ) → (n % 2 ≡ 0) ⊎ (n % 2 ≡ 1)
even_or_odd n = elim (cases_lt (n % 2) 1) [ inl h ↦ inl (omega arith) | inr h ↦ inr (omega arith) ]

-- a node and its sibling give their parent
pub parent-sibling : (t : MerkleTree) (z n : ℕ) → parent t (suc z) n (node t z n) (node t z (bit_xor n 1)) ≡ node t (suc z) (n / 2)
parent-sibling t z n =
    elim (even_or_odd n) [
      | inl e ↦
          let own : 2 * (n / 2) ≡ n = omega arith in
          let other : 2 * (n / 2) + 1 ≡ bit_xor n 1 = omega (arith, xor_even n e) in
          cond-true (eqb (n % 2) 0) _ _ (eq-eqb _ _ e)
          ∙ ap (λ (k : ℕ). t.join (suc z) (n / 2) (node t z k) (node t z (bit_xor n 1))) (sym own)
          ∙ ap (λ (k : ℕ). t.join (suc z) (n / 2) (node t z (2 * (n / 2))) (node t z k)) (sym other)
          ∙ sym (node-join t z (n / 2))
      | inr o ↦
          let own : 2 * (n / 2) + 1 ≡ n = omega arith in
          let other : 2 * (n / 2) ≡ bit_xor n 1 = omega (arith, xor_odd n o) in
          cond-false (eqb (n % 2) 0) _ _ (ne_eqb _ _ (λ e. omega arith))
          ∙ ap (λ (k : ℕ). t.join (suc z) (n / 2) (node t z (bit_xor n 1)) (node t z k)) (sym own)
          ∙ ap (λ (k : ℕ). t.join (suc z) (n / 2) (node t z k) (node t z (2 * (n / 2) + 1))) (sym other)
          ∙ sym (node-join t z (n / 2))
    ]

-- the climb from a leaf along its siblings meets the branch's node at each height
pub climb_to-branch : (t : MerkleTree) (i : ℕ) (p : ℕ → List ℕ) (k : ℕ) → ((j : ℕ) → j < k → p j ≡ sibling t i j) → climb_to t i (t.leaf i) p k ≡ node t k (i / 2 ^ k)
unfolding climb_to
climb_to-branch t i p zero on = ap t.leaf (let e : i ≡ i / 2 ^ 0 = omega arith in e) ∙ sym (node-leaf t (i / 2 ^ 0))
climb_to-branch t i p (suc k) on =
    let below = climb_to-branch t i p k (λ j h. on j (omega arith)) in
    let beside = on k (omega arith) in
    ap (λ (x : List ℕ). parent t (suc k) (i / 2 ^ k) x (p k)) below
    ∙ ap (λ (x : List ℕ). parent t (suc k) (i / 2 ^ k) (node t k (i / 2 ^ k)) x) beside
    ∙ parent-sibling t k (i / 2 ^ k)
    ∙ ap (node t (suc k)) (half_shr i k)

-- the length of a path
pub length-path_below : (t : MerkleTree) → Lawful t → (i k : ℕ) → length (path_below t i k) ≡ k * t.width
unfolding path_below
length-path_below t law i zero = omega arith
length-path_below t law i (suc k) =
    length-append (path_below t i k) (sibling t i k) ∙ omega (arith, length-path_below t law i k, node_width t law k (sibling_index i k))

-- each node of a path stands at its place
pub path_node-path : (t : MerkleTree) → Lawful t → (i k j : ℕ) → j < k → path_node t.width (path_below t i k) j ≡ sibling t i j
unfolding path_below
path_node-path t law i zero j h = absurd (omega arith)
path_node-path t law i (suc k) j h =
    let len = length-path_below t law i k in
    let last = node_width t law k (sibling_index i k) in
    elim (cases_lt j k) [
      | inl lt ↦
          let room : (j + 1) * t.width ≤ k * t.width = mul-le-mul_right t.width (let le : j + 1 ≤ k = omega arith in le) in
          let start : j * t.width ≤ length (path_below t i k) = omega arith in
          let size : t.width ≤ length (drop (j * t.width) (path_below t i k)) = simp length-drop (omega arith) in
          ap (take t.width) (drop-append-le (j * t.width) (path_below t i k) (sibling t i k) start)
          ∙ take-append-le t.width (drop (j * t.width) (path_below t i k)) (sibling t i k) size
          ∙ path_node-path t law i k j lt
      | inr ge ↦
          let same : k ≡ j = omega arith in
          let here : take t.width (drop (k * t.width) (path_below t i k ++ sibling t i k)) ≡ sibling t i k =
          ap (take t.width) (drop_at (path_below t i k) (sibling t i k) (k * t.width) len) ∙ take_all t.width (sibling t i k) (omega arith) in
          let At : ℕ → Type 0 = λ j. take t.width (drop (j * t.width) (path_below t i k ++ sibling t i k)) ≡ sibling t i j in
          subst At same here
    ]

-- climbing from a leaf along its path gives the root
pub climb-path : (t : MerkleTree) → Lawful t → (i : ℕ) → i < 2 ^ t.height → climb t i (t.leaf i) (path t i) ≡ node t t.height 0
climb-path t law i lt =
    climb_to-branch t i (path_node t.width (path t i)) t.height (λ j h. path_node-path t law i t.height j h)
    ∙ ap (node t t.height) (div-eq_of_lt lt)

-- one step of the climb, as a program takes it
pub climb-start : (t : MerkleTree) (i : ℕ) (x y : List ℕ) (p : ℕ → List ℕ) → y ≡ x → y ≡ climb_to t i x p 0
unfolding climb_to
climb-start t i x y p e = e

-- one level more of the climb
pub climb-step : (t : MerkleTree) (i : ℕ) (x : List ℕ) (p : ℕ → List ℕ) (j : ℕ) (own other : List ℕ) → own ≡ climb_to t i x p j → other ≡ p j → parent t (j + 1) (i / 2 ^ j) own other ≡ climb_to t i x p (j + 1)
unfolding climb_to
climb-step t i x p j own other e f =
    rw add-one (ap (λ (y : List ℕ). parent t (suc j) (i / 2 ^ j) y other) e ∙ ap (parent t (suc j) (i / 2 ^ j) (climb_to t i x p j)) f)

-- a part of the path's bytes, as a program cuts it
pub path_node-slice : (bytes : List ℕ) (v w j : ℕ) → v ≡ w → take (j * v + v - j * v) (drop (j * v) bytes) ≡ path_node w bytes j
path_node-slice bytes v w j e =
    let size : j * v + v - j * v ≡ v = omega arith in
    ap (λ (n : ℕ). take n (drop (j * v) bytes)) size ∙ ap (λ (n : ℕ). take n (drop (j * n) bytes)) e
