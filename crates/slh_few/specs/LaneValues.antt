-- Nodes in lanes: ours.
use Rattle.std.specs.Prelude.{◌≡◌, ℕ, ◌+◌, ◌*◌, ◌<◌, List, length, slice_index_or}
use Rattle.arrayvec.specs.ArrayVec.{ArrayVec}
use Rattle.slh_lanes.specs.Lanes.{group, value_at}
use Rattle.slh_lanes.specs.declared.words.TheConstants.{GROUP}
use Rattle.slh_tree.specs.Tree.{MerkleTree, node}

-- node j has the n bytes of lane j
abbrev pub HasValues : List (ArrayVec ℕ) → List (List ℕ) → ℕ → Type 0
HasValues nodes lanes n = (j : ℕ) (d : ArrayVec ℕ) → j < length nodes → (slice_index_or nodes j d).items ≡ value_at lanes j n

-- the lanes have the nodes of height z of a tree from index i on, of n bytes
abbrev pub AreNodes : MerkleTree → ℕ → ℕ → ℕ → List (List ℕ) → Type 0
AreNodes t n z i lanes = (j : ℕ) → j < GROUP → value_at lanes j n ≡ node t z (i + j)

-- The lanes have the nodes of a height from index i on, as `join` makes them of the sixteen below, which stand in two
-- times eight lanes.
pub record AreJoins (join : ℕ → List ℕ → List ℕ → List ℕ) (n i : ℕ) (left right lanes : List (List ℕ)) : Type 0 where
  pub low : (j : ℕ) → j < 4 → value_at lanes j n ≡ join (i + j) (value_at left (2 * j) n) (value_at left (2 * j + 1) n)
  pub high : (j : ℕ) → j < 4
      → value_at lanes (j + 4) n ≡ join (i + (j + 4)) (value_at right (2 * j) n) (value_at right (2 * j + 1) n)

-- two groups have sixteen nodes of height z of a tree from index i on, of n bytes
abbrev pub AreSixteen : MerkleTree → ℕ → ℕ → ℕ → List (List (List ℕ)) → Type 0
AreSixteen t n z i nodes = AreNodes t n z i (group nodes 0) × AreNodes t n z (i + GROUP) (group nodes 1)
