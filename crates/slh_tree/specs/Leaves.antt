-- Leaves that are made one after another: ours.
use Rattle.std.specs.Prelude.{◌≡◌, ℕ, ◌+◌, ◌<◌, List, length, slice_index_or}
use Rattle.arrayvec.specs.ArrayVec.{ArrayVec}
use Rattle.slh_tree.specs.Tree.{MerkleTree}
use Rattle.slh_tree.specs.declared.leaf_group.LeafGroup.{LeafGroup}

-- the nodes are the tree's leaves from this one on
abbrev pub AreLeavesFrom : MerkleTree → ℕ → List (ArrayVec ℕ) → Type 0
AreLeavesFrom t first nodes = (j : ℕ) (d : ArrayVec ℕ) → j < length nodes → (slice_index_or nodes j d).items ≡ t.leaf (first + j)

-- so are those of a group
abbrev pub AreLeaves : MerkleTree → LeafGroup → Type 0
AreLeaves t group = AreLeavesFrom t group.first group.nodes.items
