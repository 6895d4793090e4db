-- The authentication path of a leaf, and the climb from a leaf along a path (FIPS 205, sections 6.2, 6.3, 8.3 and 8.4).
use Rattle.std.specs.Prelude.{ℕ, zero, suc, ◌*◌, ◌/◌, ◌%◌, ◌^◌, ◌==◌, List, [], ◌++◌, take, drop, if◌then◌else◌}
use Rattle.slh_tree.specs.Tree.{MerkleTree, sibling}

-- the siblings of the nodes over leaf i, below height j, end to end
unfoldable pub path_below : MerkleTree → ℕ → ℕ → List ℕ
path_below t i zero = []
path_below t i (suc j) = path_below t i j ++ sibling t i j

-- the authentication path of leaf i (FIPS 205, AUTH of Algorithms 10 and 16)
abbrev pub path : MerkleTree → ℕ → List ℕ
path t i = path_below t i t.height

-- the node of height z over a node that stands at index i of the level below, and over that node's sibling
abbrev pub parent : MerkleTree → ℕ → ℕ → List ℕ → List ℕ → List ℕ
parent t z i own other = if (i % 2 == 0) then t.join z (i / 2) own other else t.join z (i / 2) other own

-- The node of height j of the climb from x at leaf i (FIPS 205, the loops of Algorithms 11 and 17). p gives the sibling
-- at each height.
unfoldable pub climb_to : MerkleTree → ℕ → List ℕ → (ℕ → List ℕ) → ℕ → List ℕ
climb_to t i x p zero = x
climb_to t i x p (suc j) = parent t (suc j) (i / 2 ^ j) (climb_to t i x p j) (p j)

-- the node at place j of a path that is given as bytes
abbrev pub path_node : ℕ → List ℕ → ℕ → List ℕ
path_node width bytes j = take width (drop (j * width) bytes)

-- the last node of the climb from x at leaf i along the bytes of a path
abbrev pub climb : MerkleTree → ℕ → List ℕ → List ℕ → List ℕ
climb t i x bytes = climb_to t i x (path_node t.width bytes) t.height
