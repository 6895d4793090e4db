-- The nodes of one height of a tree, made of those of the height below: ours.
use Rattle.std.specs.Prelude.{◌≡◌, ℕ, ◌+◌, ◌*◌, ◌<◌, ◌≤◌, List, length, slice_index_or}
use Rattle.arrayvec.specs.ArrayVec.{ArrayVec}
use Rattle.slh_tree.specs.Tree.{MerkleTree}
use Rattle.slh_few.specs.Chunks.{chunk}

-- the nodes are those of height z from index `first` on, where those of the height below stand end to end, each of n
-- bytes
abbrev pub AreParents : MerkleTree → ℕ → ℕ → ℕ → List ℕ → List (ArrayVec ℕ) → Type 0
AreParents t n z first below nodes = (j : ℕ) (d : ArrayVec ℕ) → j < length nodes
    → (slice_index_or nodes j d).items ≡ t.join z (first + j) (chunk n below (2 * (first + j))) (chunk n below (2 * (first + j) + 1))

-- The bytes were the nodes of the height below end to end. Now as many as `count` nodes of height z are in place of the
-- first of them.
pub record AreJoined (t : MerkleTree) (n z : ℕ) (below : List ℕ) (count : ℕ) (bytes : List ℕ) : Type 0 where
  pub joined : (i : ℕ) → i < count → chunk n bytes i ≡ t.join z i (chunk n below (2 * i)) (chunk n below (2 * i + 1))
  pub others : (i : ℕ) → count ≤ i → chunk n bytes i ≡ chunk n below i
