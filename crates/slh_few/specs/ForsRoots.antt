-- The roots of FORS trees that a signature gives for leaves of given indices: ours, over FIPS 205, section 8.4.
use Rattle.std.specs.Prelude.{◌≡◌, ℕ, ◌+◌, ◌*◌, ◌/◌, ◌^◌, ◌<◌, ◌≤◌, List, [], take, drop, slice_index}
use Rattle.slh_params.specs.Address.{Address, address, FORS_TREE}
use Rattle.slh_params.specs.Params.{Params}
use Rattle.slh_lanes.specs.declared.words.TheConstants.{GROUP}
use Rattle.slh_tree.specs.Climb.{climb_to, path_node}
use Rattle.slh_few.specs.Chunks.{chunk}
use Rattle.slh_few.specs.Fors.{fors_tree, fors_leaf, fors_part_len}
use Rattle.slh_few.specs.declared.lanes.fors_climbs.TreeGroup.{TreeGroup}

-- the node of height z over leaf x of tree j that the tree's part of a signature gives
abbrev pub climbed : Params → List ℕ → List ℕ → ℕ → ℕ → ℕ → ℕ → List ℕ → ℕ → List ℕ
climbed p sk_seed pk_seed t i j x own z =
    climb_to (fors_tree p sk_seed pk_seed t i j) x (fors_leaf p pk_seed t i (j * 2 ^ p.a + x) (take p.n own))
    (path_node p.n (drop p.n own)) z

-- the node of height z of tree j that a whole signature gives
abbrev pub node_given : Params → List ℕ → List ℕ → ℕ → ℕ → List ℕ → List ℕ → ℕ → ℕ → List ℕ
node_given p sk_seed pk_seed t i indices sig z j =
    climbed p sk_seed pk_seed t i j (slice_index indices j) (chunk (fors_part_len p) sig j) z

-- its root
abbrev pub root_given : Params → List ℕ → List ℕ → ℕ → ℕ → List ℕ → List ℕ → ℕ → List ℕ
root_given p sk_seed pk_seed t i indices sig j = node_given p sk_seed pk_seed t i indices sig p.a j

-- the trees fit into the lanes, and are trees of the set
abbrev pub AreWithin : Params → TreeGroup → Type 0
AreWithin p trees = (trees.used ≤ GROUP) × (trees.first.tree_no + trees.used ≤ p.k)

-- the leaves are those of these indices in their trees
abbrev pub HasLeaves : Params → List ℕ → TreeGroup → Type 0
HasLeaves p indices trees = (j : ℕ) → j < trees.used
    → slice_index trees.leaves j ≡ (trees.first.tree_no + j) * 2 ^ p.a + slice_index indices (trees.first.tree_no + j)

-- the address of the node of height z over the leaf in lane j
abbrev pub address_over : TreeGroup → ℕ → ℕ → Address
address_over trees z j =
    address 0 trees.first.idx_tree FORS_TREE trees.first.idx_leaf z (slice_index trees.leaves j / 2 ^ z)

-- the values of the lanes are the nodes of height z that a whole signature gives
abbrev pub AreGiven : Params → List ℕ → List ℕ → List ℕ → TreeGroup → ℕ → (ℕ → List ℕ) → Type 0
AreGiven p pk_seed indices sig trees z values = (j : ℕ) → j < trees.used
    → values j
    ≡ node_given p [] pk_seed trees.first.idx_tree trees.first.idx_leaf indices sig z (trees.first.tree_no + j)
