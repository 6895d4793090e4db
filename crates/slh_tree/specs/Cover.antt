-- Covers of a range of leaves by nodes: ours.
use Rattle.std.specs.Prelude.{◌≡◌, ℕ, ◌+◌, ◌*◌, ◌%◌, ◌^◌, ◌≤◌, ⊤, List, [], ◌∷◌, All}
use Rattle.slh_tree.specs.declared.cover.Cover.{Cover}
use Rattle.slh_tree.specs.declared.cover.Placed.{Placed}
use Rattle.slh_tree.specs.Tree.{MerkleTree, node}

-- the first leaf below the node of height z at index i
abbrev pub first_leaf : ℕ → ℕ → ℕ
first_leaf z i = i * 2 ^ z

-- the leaf after the last one below that node
abbrev pub past_leaf : ℕ → ℕ → ℕ
past_leaf z i = (i + 1) * 2 ^ z

-- the tree's node at its place
pub record IsNodeOf (t : MerkleTree) (p : Placed) : Type 0 where
  pub height : p.z ≤ t.height
  pub within : past_leaf p.z p.i ≤ 2 ^ t.height
  pub bytes : p.node.items ≡ node t p.z p.i

-- q is the right sibling of the left child p
pub record AreSiblings (p q : Placed) : Type 0 where
  pub same_height : p.z ≡ q.z
  pub left : p.i % 2 ≡ 0
  pub next : q.i ≡ p.i + 1

-- the leaves below the nodes, put end to end, are lo .. hi
abbrev pub Spans : ℕ → ℕ → List Placed → Type 0
Spans lo hi [] = lo ≡ hi
Spans lo hi (p ∷ ps) = (first_leaf p.z p.i ≡ lo) × Spans (past_leaf p.z p.i) hi ps

-- no left child is followed by its right sibling
abbrev pub NoSiblingsMeet : List Placed → Type 0
NoSiblingsMeet [] = ⊤
NoSiblingsMeet (p ∷ []) = ⊤
NoSiblingsMeet (p ∷ q ∷ ps) = (AreSiblings p q → ⊥) × NoSiblingsMeet (q ∷ ps)

-- The tree's nodes whose leaves, put end to end, are lo .. hi, with no left child followed by its right sibling.
pub record IsCover (t : MerkleTree) (lo hi : ℕ) (ps : List Placed) : Type 0 where
  pub own : All (IsNodeOf t) ps
  pub spans : Spans lo hi ps
  pub apart : NoSiblingsMeet ps

-- covers of the tree, put end to end from the leaf lo to the last one
abbrev pub AreCovers : MerkleTree → ℕ → List Cover → Type 0
AreCovers t lo [] = lo ≡ 2 ^ t.height
AreCovers t lo (c ∷ cs) = (c.lo ≡ lo) × IsCover t c.lo c.hi c.nodes.items × AreCovers t c.hi cs

-- the first of the list, if any, is not the left sibling of q
abbrev pub EndsApart : List Placed → Placed → Type 0
EndsApart [] q = ⊤
EndsApart (p ∷ ps) q = AreSiblings p q → ⊥

-- The same cover, read from its last node: the list is reversed.
abbrev pub IsCoverFromEnd : MerkleTree → ℕ → ℕ → List Placed → Type 0
IsCoverFromEnd t lo hi [] = lo ≡ hi
IsCoverFromEnd t lo hi (p ∷ ps) = IsNodeOf t p × (past_leaf p.z p.i ≡ hi) × EndsApart ps p × IsCoverFromEnd t lo (first_leaf p.z p.i) ps
