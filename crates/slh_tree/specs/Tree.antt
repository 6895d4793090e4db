-- Merkle trees over byte strings (FIPS 205, sections 6.1 and 8.2).
use Rattle.std.specs.Prelude.{◌≡◌, ℕ, zero, suc, ◌+◌, ◌*◌, ◌/◌, ◌^◌, List, length, bit_xor}

-- How high a tree is, how long its nodes are, its leaves, and how two nodes are joined to the one above them.
pub record MerkleTree : Type 0 where
  pub height : ℕ
  pub width : ℕ
  -- the leaf at an index
  pub leaf : ℕ → List ℕ
  -- the node at a height and an index, from its left and its right child
  pub join : ℕ → ℕ → List ℕ → List ℕ → List ℕ

-- all nodes of the tree have one length
pub record Lawful (t : MerkleTree) : Type 0 where
  pub leaf_width : (i : ℕ) → length (t.leaf i) ≡ t.width
  pub join_width : (z i : ℕ) (l r : List ℕ) → length (t.join z i l r) ≡ t.width

-- The node of height z at index i, over the leaves from i * 2 ^ z to (i + 1) * 2 ^ z - 1 (Algorithms 9 and 15).
unfoldable pub node : MerkleTree → ℕ → ℕ → List ℕ
node t zero i = t.leaf i
node t (suc z) i = t.join (suc z) i (node t z (2 * i)) (node t z (2 * i + 1))

-- the one node of the tree's height
abbrev pub root : MerkleTree → List ℕ
root t = node t t.height 0

-- the index of the sibling of the node of height j over leaf i
abbrev pub sibling_index : ℕ → ℕ → ℕ
sibling_index i j = bit_xor (i / 2 ^ j) 1

-- the sibling of the node of height j over leaf i
abbrev pub sibling : MerkleTree → ℕ → ℕ → List ℕ
sibling t i j = node t j (sibling_index i j)
