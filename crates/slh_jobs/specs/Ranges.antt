-- Ranges of one size of the leaves of a tree, and the answers that are made of them: ours.
use Rattle.std.specs.Prelude.{ℕ, ◌+◌, ◌-◌, ◌*◌, ◌/◌, ◌^◌, ◌==◌, ◌≤◌, if◌then◌else◌, List, ◌++◌, take, drop, replicate}
use Rattle.slh_tree.specs.Tree.{MerkleTree, node}
use Rattle.slh_tree.specs.Climb.{path, path_below}
use Rattle.slh_few.specs.Chunks.{chunk}
use Rattle.slh_jobs.specs.declared.shape.Shape.{Shape}

-- Throughout, a tree of nodes of n bytes is cut into 2 ^ levels ranges. The answer of a range is its node, the node's
-- tag and `own` bytes more.

-- the height of a range's node
abbrev pub below : Shape → ℕ
below s = s.height - s.levels

-- how trees are cut
pub record IsShape (s : Shape) : Type 0 where
  pub high : s.height ≤ 14
  pub some : s.levels ≤ s.height
  pub few : s.levels ≤ 8
  pub n_low : 1 ≤ s.n
  pub n_high : s.n ≤ 32

-- the length of an answer
abbrev pub answer_len : Shape → ℕ
answer_len s = 2 * s.n + s.own

-- The part after the tag, if a leaf v of the tree has its path in the signature: if v is one of range r, the path's
-- nodes below the range's node, and then `rest`; else zeros.
abbrev pub own_part : MerkleTree → Shape → ℕ → List ℕ → ℕ → List ℕ
own_part t s v rest r = if v / 2 ^ below s == r then path_below t v (below s) ++ rest else replicate s.own 0

-- the answer of range r, if `tag` gives the tag of a node
abbrev pub range_answer : MerkleTree → Shape → ℕ → List ℕ → (List ℕ → List ℕ) → ℕ → List ℕ
range_answer t s v rest tag r = node t (below s) r ++ tag (node t (below s) r) ++ own_part t s v rest r

-- Answer c of the bytes, which are answers of one shape.
abbrev pub given : Shape → List ℕ → ℕ → List ℕ
given s bytes c = chunk (answer_len s) bytes c

-- The parts that are read from it: the node, with zeros for missing bytes, the tag, the nodes of a path, and the rest.
abbrev pub node_given : Shape → List ℕ → ℕ → List ℕ
node_given s bytes c = take s.n (given s bytes c ++ replicate s.n 0)

abbrev pub tag_given : Shape → List ℕ → ℕ → List ℕ
tag_given s bytes c = take s.n (drop s.n (given s bytes c))

abbrev pub path_given : Shape → List ℕ → ℕ → List ℕ
path_given s bytes c = take (below s * s.n) (drop (2 * s.n) (given s bytes c))

abbrev pub rest_given : Shape → List ℕ → ℕ → List ℕ
rest_given s bytes c = drop (below s * s.n) (drop (2 * s.n) (given s bytes c))

-- the tree above the ranges, if their nodes are those given, from answer `first` on
abbrev pub upper_given : MerkleTree → Shape → List ℕ → ℕ → MerkleTree
upper_given t s bytes first = record {
  height = s.levels;
  width = s.n;
  leaf = λ r. node_given s bytes (first + r);
  join = λ z i x y. t.join (below s + z) i x y;
}

-- the path of leaf v: as its range's answer gives it, and then above the ranges
abbrev pub auth_given : MerkleTree → Shape → List ℕ → ℕ → ℕ → List ℕ
auth_given t s bytes first v =
    path_given s bytes (first + v / 2 ^ below s) ++ path (upper_given t s bytes first) (v / 2 ^ below s)
