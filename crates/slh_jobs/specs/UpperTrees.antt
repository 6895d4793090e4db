-- The tree above ranges whose nodes are given, as a tree whose nodes have n bytes: ours.
use Rattle.std.proofs.Common.{◌≡◌, ℕ, ◌+◌, List, ◌++◌, length, replicate, length-take-le, length-append, arith}
use Rattle.std.proofs.lemmas.List.{length-replicate}
use Rattle.slh_tree.specs.Tree.{MerkleTree, Lawful}
use Rattle.slh_jobs.specs.Ranges.{given, node_given, upper_given, below}
use Rattle.slh_jobs.specs.declared.shape.Shape.{Shape}

-- a node that is given has n bytes
pub length-node_given : (s : Shape) (bytes : List ℕ) (c : ℕ) → length (node_given s bytes c) ≡ s.n
length-node_given s bytes c =
    length-take-le s.n (given s bytes c ++ replicate s.n 0)
    (omega (arith, length-append (given s bytes c) (replicate s.n 0), length-replicate {A = ℕ} s.n 0))

-- all its nodes have n bytes
pub upper-lawful : (t : MerkleTree) → Lawful t → (s : Shape) (bytes : List ℕ) (first : ℕ) → s.n ≡ t.width → Lawful (upper_given t s bytes first)
upper-lawful t law s bytes first same = record {
  leaf_width = λ r. length-node_given s bytes (first + r);
  join_width = λ z i x y. rw same (law.join_width (below s + z) i x y);
}
