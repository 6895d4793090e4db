-- The nodes that a record knows are the path's.
use Rattle.std.proofs.Common.{◌≡◌, ℕ, ◌<◌, Some, length, ap, sym, ◌∙◌}
use Rattle.slh_tree.specs.Tree.{MerkleTree, Lawful, sibling, sibling_index}
use Rattle.slh_tree.specs.Climb.{path_below}
use Rattle.slh_tree.specs.Record.{KnownPath, known}
use Rattle.slh_tree.proofs.Authentic.{node_width}
use Rattle.slh_few.specs.Chunks.{end_to_end}
use Rattle.slh_few.specs.Paths.{node_bytes, bytes_or_none}
use Rattle.slh_few.proofs.Ends.{end_to_end-same, path_below-siblings}

-- below height z the record knows the path of leaf v
abbrev pub Knows : MerkleTree → ℕ → ℕ → KnownPath → Type 0
Knows t v z r = (j : ℕ) → j < z → known r j ≡ Some (sibling t v j)

-- each of these nodes has the length of a node
pub length-known : (t : MerkleTree) → Lawful t → (v z : ℕ) (r : KnownPath) → Knows t v z r → (j : ℕ) → j < z → length (node_bytes r j) ≡ t.width
length-known t law v z r knows j lt = ap length (ap bytes_or_none (knows j lt)) ∙ node_width t law j (sibling_index v j)

-- and end to end they are the path below that height
pub path-known : (t : MerkleTree) (v z : ℕ) (r : KnownPath) → Knows t v z r → end_to_end (node_bytes r) z ≡ path_below t v z
path-known t v z r knows =
    end_to_end-same (node_bytes r) (sibling t v) z (λ j lt. ap bytes_or_none (knows j lt)) ∙ sym (path_below-siblings t v z)
