-- What is made of the range of a leaf: the range's node, and the nodes of the leaf's path below it.
use Rattle.std.proofs.Common.{◌≡◌, ℕ, suc, ◌+◌, ◌*◌, ◌/◌, ◌%◌, ◌^◌, ◌<◌, ◌≤◌, inl, inr, Some, bit_xor, List, [], ◌∷◌, get_or, arith, sym, subst, ap, ◌∙◌}
use Rattle.std.specs.List.{All}
use Rattle.std.proofs.Math.Nat.{mul-le-mul_right, mod-lt}
use Rattle.std.proofs.lemmas.Nat.{pow_pos}
use Rattle.std.proofs.lemmas.Bool.{cases_lt}
use Rattle.slh_tree.specs.Tree.{MerkleTree, node, sibling}
use Rattle.slh_tree.specs.Cover.{first_leaf, past_leaf, IsNodeOf}
use Rattle.slh_tree.specs.declared.cover.Cover.{Cover}
use Rattle.slh_tree.specs.declared.cover.Placed.{Placed}
use Rattle.slh_tree.specs.Record.{KnownPath, LiesInRange}
use Rattle.slh_tree.proofs.Blocks.{lies_inside, first_left_half, past_right_half}
use Rattle.slh_tree.proofs.Branch.{half_shr, xor_even, xor_odd}
use Rattle.slh_subtrees.specs.Gathered.{IsHashed}
use Rattle.slh_subtrees.proofs.PathLaw.{Knows}

-- a leaf lies in the block of its branch
first_before : (v z : ℕ) → first_leaf z (v / 2 ^ z) ≤ v
first_before v z = let all : v / 2 ^ z * 2 ^ z + v % 2 ^ z ≡ v = omega arith in omega (arith, all)

before_past : (v z : ℕ) → v < past_leaf z (v / 2 ^ z)
before_past v z =
    let all : v / 2 ^ z * 2 ^ z + v % 2 ^ z ≡ v = omega arith in
    let next : (v / 2 ^ z + 1) * 2 ^ z ≡ v / 2 ^ z * 2 ^ z + 2 ^ z = omega arith in
    omega (arith, all, next, mod-lt v (pow_pos z))

-- a branch's block lies in the block one or more levels up
block_first : (v z j : ℕ) → j ≤ z → first_leaf z (v / 2 ^ z) ≤ first_leaf j (v / 2 ^ j)
block_first v z j le = lies_inside z (v / 2 ^ z) j (v / 2 ^ j) le (omega (arith, first_before v z, before_past v j))

block_past : (v z j : ℕ) → j ≤ z → past_leaf j (v / 2 ^ j) ≤ past_leaf z (v / 2 ^ z)
block_past v z j le =
    elim (cases_lt (past_leaf z (v / 2 ^ z)) (past_leaf j (v / 2 ^ j))) [
      | inl over ↦ absurd (omega (arith, lies_inside z (v / 2 ^ z + 1) j (v / 2 ^ j) le over, first_before v j, before_past v z))
      | inr fits ↦ fits
    ]

-- the block of a branch's sibling lies in their parent's
sibling_first : (q i j : ℕ) → i / 2 ≡ q → first_leaf (suc j) q ≤ first_leaf j (bit_xor i 1)
sibling_first q i j e =
    let left : 2 * q ≤ bit_xor i 1 =
    elim (cases_lt (i % 2) 1) [
      | inl even ↦ omega (arith, xor_even i (omega arith))
      | inr odd ↦ omega (arith, xor_odd i (omega arith))
    ] in
    omega (arith, first_left_half j q, mul-le-mul_right (2 ^ j) left)

sibling_past : (q i j : ℕ) → i / 2 ≡ q → past_leaf j (bit_xor i 1) ≤ past_leaf (suc j) q
sibling_past q i j e =
    let right : bit_xor i 1 + 1 ≤ 2 * q + 1 + 1 =
    elim (cases_lt (i % 2) 1) [
      | inl even ↦ omega (arith, xor_even i (omega arith))
      | inr odd ↦ omega (arith, xor_odd i (omega arith))
    ] in
    omega (arith, past_right_half j q, mul-le-mul_right (2 ^ j) right)

-- the nodes of a leaf's path below the node over it have their leaves in that node's range
inside_block : (v z j : ℕ) → j < z → LiesInRange (first_leaf z (v / 2 ^ z)) (past_leaf z (v / 2 ^ z)) v j
inside_block v z j lt =
    let half = half_shr v j in
    record {
      from = omega (arith, block_first v z (suc j) (omega arith), sibling_first (v / 2 ^ suc j) (v / 2 ^ j) j half);
      to = omega (arith, block_past v z (suc j) (omega arith), sibling_past (v / 2 ^ suc j) (v / 2 ^ j) j half);
    }

-- so what is made of the range of a leaf knows the leaf's path below the range's node
pub hashed-knows :
    (t : MerkleTree) (v z : ℕ) (c : Cover) (r : KnownPath) →
    IsHashed t v c r →
    c.lo ≡ first_leaf z (v / 2 ^ z) →
    c.hi ≡ past_leaf z (v / 2 ^ z) →
    z ≤ t.height →
    Knows t v z r
hashed-knows t v z c r is from to low = λ j lt. is.inside j (omega arith) (rw (from, to) (inside_block v z j lt))

-- the one node of the cover of a block is the tree's
pub block-node :
    (t : MerkleTree) (v z i : ℕ) (c : Cover) (r : KnownPath) →
    IsHashed t v c r →
    ((p : Placed) × (c.nodes.items ≡ p ∷ []) × (p.z ≡ z) × (p.i ≡ i)) →
    (d : Placed) →
    (get_or c.nodes.items 0 d).node.items ≡ node t z i
block-node t v z i c r is one d =
    let Of : List Placed → Type 0 = λ ps. All (IsNodeOf t) ps in
    let own : IsNodeOf t one.0 = subst Of one.1 is.cover.own 0 d (omega arith) in
    ap (λ (ps : List Placed). (get_or ps 0 d).node.items) one.1 ∙ own.bytes ∙ ap (λ (k : ℕ). node t k one.0.i) one.2 ∙ ap (node t z) one.3
