-- The results of a range of a tree's leaves, and of the whole tree: ours.
use Rattle.std.specs.Prelude.{◌≡◌, ℕ, ◌<◌, List, length, None, Some, slice_index_or}
use Rattle.slh_tree.specs.Tree.{MerkleTree, root, sibling}
use Rattle.slh_tree.specs.Cover.{IsCover, AreCovers}
use Rattle.slh_tree.specs.Record.{KnownPath, known, LiesInRange}
use Rattle.slh_tree.specs.declared.cover.Cover.{Cover}
use Rattle.slh_subtrees.specs.declared.gathered_tree.GatheredTree.{GatheredTree}

-- the cover of its range of the tree's leaves, and a record of those nodes of leaf idx's path whose leaves are in that
-- range
pub record IsHashed (tree : MerkleTree) (idx : ℕ) (c : Cover) (r : KnownPath) : Type 0 where
  pub cover : IsCover tree c.lo c.hi c.nodes.items
  pub height : r.height ≡ tree.height
  pub leaf : r.leaf ≡ idx
  pub inside : (j : ℕ) → j < tree.height → LiesInRange c.lo c.hi idx j → known r j ≡ Some (sibling tree idx j)
  pub outside : (j : ℕ) → (LiesInRange c.lo c.hi idx j → ⊥) → known r j ≡ None

-- covers that, put end to end, span the tree, and the record of each
pub record AreHashed (tree : MerkleTree) (idx : ℕ) (cs : List Cover) (rs : List KnownPath) : Type 0 where
  pub span : AreCovers tree 0 cs
  pub count : length rs ≡ length cs
  pub each : (k : ℕ) (c : Cover) (r : KnownPath) → k < length cs → IsHashed tree idx (slice_index_or cs k c) (slice_index_or rs k r)

-- the tree's root, and the whole path of leaf idx
pub record IsGathered (tree : MerkleTree) (idx : ℕ) (x : GatheredTree) : Type 0 where
  pub root : x.root.items ≡ root tree
  pub height : x.path.height ≡ tree.height
  pub leaf : x.path.leaf ≡ idx
  pub path : (j : ℕ) → j < tree.height → known x.path j ≡ Some (sibling tree idx j)
