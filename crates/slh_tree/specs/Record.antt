-- The nodes that a path record knows: ours.
use Rattle.std.specs.Prelude.{◌≡◌, ℕ, ◌<◌, ◌≤◌, ◌⊎◌, List, [], ◌∷◌, Option, None, Some, slice_index_or}
use Rattle.arrayvec.specs.ArrayVec.{ArrayVec}
use Rattle.slh_tree.specs.declared.cover.Cover.{Cover}
use Rattle.slh_tree.specs.declared.cover.Placed.{Placed}
use Rattle.slh_tree.specs.Tree.{MerkleTree, sibling, sibling_index}
use Rattle.slh_tree.specs.Cover.{first_leaf, past_leaf}

-- The tree's height, the leaf whose path it is, and for each height the path's node there, as far as it is known.
pub record KnownPath : Type 0 where
  pub height : ℕ
  pub leaf : ℕ
  pub nodes : List (Option (List ℕ))

-- the bytes of a node that may be missing
abbrev pub bytes_of : Option (ArrayVec ℕ) → Option (List ℕ)
bytes_of None = None
bytes_of (Some node) = Some node.items

-- the path's node of height j, where it is known
abbrev pub known : KnownPath → ℕ → Option (List ℕ)
known r j = slice_index_or r.nodes j None

-- The effect of a call on a record: the new one also knows the nodes of its leaf's path whose heights are `Gained` and
-- below the record's. Nothing else changes.
pub record Gains (t : MerkleTree) (Gained : ℕ → Type 0) (old new : KnownPath) : Type 0 where
  pub height : new.height ≡ old.height
  pub leaf : new.leaf ≡ old.leaf
  pub noted : (j : ℕ) → j < old.height → Gained j → known new j ≡ Some (sibling t old.leaf j)
  pub kept : (j : ℕ) → (j < old.height → Gained j → ⊥) → known new j ≡ known old j

-- the leaves of the node of height j of leaf i's path are all in lo .. hi
pub record LiesInRange (lo hi i j : ℕ) : Type 0 where
  pub from : lo ≤ first_leaf j (sibling_index i j)
  pub to : past_leaf j (sibling_index i j) ≤ hi

-- the leaves of the node of height j of leaf i's path are all in the range of one of the covers
abbrev pub LiesInOne : List Cover → ℕ → ℕ → Type 0
LiesInOne [] i j = ⊥
LiesInOne (c ∷ cs) i j = LiesInRange c.lo c.hi i j ⊎ LiesInOne cs i j

-- The last leaf of the node of height j of leaf i's path is that of p, and its first one lies before p's, from lo on.
pub record Completes (lo : ℕ) (p : Placed) (i j : ℕ) : Type 0 where
  pub from : lo ≤ first_leaf j (sibling_index i j)
  pub before : first_leaf j (sibling_index i j) < first_leaf p.z p.i
  pub ends : past_leaf j (sibling_index i j) ≡ past_leaf p.z p.i

-- the last leaf of the node of height j of leaf i's path is in lo .. hi, and its first one before
pub record Crosses (lo hi i j : ℕ) : Type 0 where
  pub before : first_leaf j (sibling_index i j) < lo
  pub after : lo < past_leaf j (sibling_index i j)
  pub to : past_leaf j (sibling_index i j) ≤ hi
