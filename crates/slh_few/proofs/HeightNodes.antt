-- The nodes of a tree height by height.
use Rattle.std.proofs.Common.{◌≡◌, ℕ, ◌+◌, ◌-◌, ◌*◌, ◌/◌, ◌^◌, ◌<◌, ◌≤◌, bit_xor, lit≤, List, arith, ap, ◌∙◌, refl}
use Rattle.std.proofs.Math.Nat.{mul-le-mul_right, pow-le-pow_right}
use Rattle.std.proofs.lemmas.Nat.{pow-add, pow_below, xor_lt}
use Rattle.slh_tree.specs.Tree.{MerkleTree, node}
use Rattle.slh_tree.proofs.Branch.{branch_below}
use Rattle.slh_few.specs.Heights.{AreJoined}
use Rattle.slh_few.specs.Chunks.{HasChunks, chunk}
use Rattle.slh_few.proofs.NodeLanes.{joined}

-- a chunk fits where more chunks do
pub chunk_room : (c k n m : ℕ) → c < k → k * n ≤ m → c * n + n ≤ m
chunk_room c k n m lt le =
    let next : c + 1 ≤ k = omega arith in
    let up : (c + 1) * n ≤ k * n = mul-le-mul_right n next in
    omega (arith, up, le)

-- one height down there are twice as many nodes
twice_below : (h z : ℕ) → z < h → 2 ^ (h - z) ≡ 2 * 2 ^ (h - (z + 1))
twice_below h z lt =
    let e : h - z ≡ 1 + (h - (z + 1)) = omega arith in
    ap (λ (k : ℕ). 2 ^ k) e ∙ pow-add 2 1 (h - (z + 1))

-- a height has no more nodes than the tree has leaves
height_below : (h z : ℕ) → 2 ^ (h - z) ≤ 2 ^ h
height_below h z = let low : h - z ≤ h = omega arith in pow-le-pow_right {n = 2} (lit≤ tt) low

-- the nodes of a height fit where the leaves stood
pub height_fits : (h z n m : ℕ) → z < h → m ≡ 2 ^ h * n → 2 * 2 ^ (h - (z + 1)) * n ≤ m
height_fits h z n m lt size =
    let up : 2 ^ (h - z) * n ≤ 2 ^ h * n = mul-le-mul_right n (height_below h z) in
    let same : 2 ^ (h - z) * n ≡ 2 * 2 ^ (h - (z + 1)) * n = ap (λ (k : ℕ). k * n) (twice_below h z lt) in
    omega (arith, up, same, size)

-- the sibling of a node is one of its height
pub sibling_below : (i h j : ℕ) → i < 2 ^ h → j < h → bit_xor (i / 2 ^ j) 1 < 2 ^ (h - j)
sibling_below i h j lt below =
    let own = branch_below i h j lt (omega arith) in
    let one : 1 < 2 ^ (h - j) = pow_below 0 (h - j) (omega arith) in
    xor_lt (h - j) (i / 2 ^ j) 1 own one

-- so it fits there, too
pub sibling_fits : (i h j n m : ℕ) → i < 2 ^ h → j < h → m ≡ 2 ^ h * n → bit_xor (i / 2 ^ j) 1 * n + n ≤ m
sibling_fits i h j n m lt below size =
    let under = sibling_below i h j lt below in
    let few = height_below h j in
    let next : bit_xor (i / 2 ^ j) 1 + 1 ≤ 2 ^ h = omega (arith, under, few) in
    let up : (bit_xor (i / 2 ^ j) 1 + 1) * n ≤ 2 ^ h * n = mul-le-mul_right n next in
    omega (arith, up, size)

-- the nodes of the height above, where those of this height stand end to end
pub height_up : (t : MerkleTree) (n z h : ℕ) (below bytes : List ℕ) → z < h → AreJoined t n (z + 1) below (2 ^ (h - (z + 1))) bytes
    → HasChunks n below (node t z) (2 ^ (h - z)) → HasChunks n bytes (node t (z + 1)) (2 ^ (h - (z + 1)))
height_up t n z h below bytes high is nodes i lt =
    let twice = twice_below h z high in
    let from : z ≡ z + 1 - 1 = omega arith in
    is.joined i lt
    ∙ joined t (z + 1) z i (2 * i) (chunk n below (2 * i)) (chunk n below (2 * i + 1)) (omega arith) from refl
    (nodes (2 * i) (omega (arith, lt, twice))) (nodes (2 * i + 1) (omega (arith, lt, twice)))
