-- Where the answers of a tree's ranges are right, what is read from them is the tree's own.
use Rattle.std.proofs.Common.{◌≡◌, ℕ, zero, suc, ◌+◌, ◌-◌, ◌*◌, ◌/◌, ◌^◌, ◌<◌, ◌≤◌, eqb, bit_xor, List, ◌++◌, length, take, drop, replicate, refl, ap, sym, ◌∙◌, arith, add-one}
use Rattle.std.proofs.lemmas.Bool.{cond-true, eq-eqb}
use Rattle.std.proofs.lemmas.List.{append_assoc, append-nil, drop_at, length-append}
use Rattle.std.proofs.lemmas.Nat.{shr-shr, xor_lt, pow_below}
use Rattle.std.proofs.Math.Nat.{pow-suc}
use Rattle.slh_tree.specs.Tree.{MerkleTree, Lawful, node, root, sibling}
use Rattle.slh_tree.specs.Climb.{path, path_below}
use Rattle.slh_tree.proofs.Authentic.{node_width, length-path_below}
use Rattle.slh_tree.proofs.Branch.{branch_below}
use Rattle.slh_few.proofs.XmssLaw.{take_front}
use Rattle.slh_jobs.specs.Ranges.{IsShape, below, own_part, range_answer, given, node_given, tag_given, path_given, rest_given, upper_given, auth_given}
use Rattle.slh_jobs.specs.declared.shape.Shape.{Shape}
use Rattle.slh_jobs.proofs.Indices.{range_below}

-- What is known of a tree's answers: they are those of its ranges, of leaf v and with `rest` after its path.
pub record AreOfTree (t : MerkleTree) (s : Shape) (v : ℕ) (rest : List ℕ) (tag : ℕ → List ℕ → List ℕ) (bytes : List ℕ) (first : ℕ) : Type 0 where
  pub law : Lawful t
  pub shape : IsShape s
  pub height : s.height ≡ t.height
  pub width : s.n ≡ t.width
  pub leaf : v < 2 ^ s.height
  pub tag_len : (r : ℕ) (x : List ℕ) → length (tag r x) ≡ s.n
  pub each : (r : ℕ) → r < 2 ^ s.levels → given s bytes (first + r) ≡ range_answer t s v rest (tag r) r

-- the node of a range has n bytes
range_node_len : (t : MerkleTree) → Lawful t → (s : Shape) → s.n ≡ t.width → (r : ℕ) → length (node t (below s) r) ≡ s.n
range_node_len t law s width r = node_width t law (below s) r ∙ sym width

-- the node is the range's
pub node-right : (t : MerkleTree) (s : Shape) (v : ℕ) (rest : List ℕ) (tag : ℕ → List ℕ → List ℕ) (bytes : List ℕ) (first : ℕ) → AreOfTree t s v rest tag bytes first
    → (r : ℕ) → r < 2 ^ s.levels → node_given s bytes (first + r) ≡ node t (below s) r
node-right t s v rest tag bytes first is r lt =
    let x = node t (below s) r in
    let back = tag r x ++ own_part t s v rest r in
    ap (λ (xs : List ℕ). take s.n (xs ++ replicate s.n 0)) (is.each r lt ∙ append_assoc x (tag r x) (own_part t s v rest r))
    ∙ ap (take s.n) (append_assoc x back (replicate s.n 0))
    ∙ take_front x (back ++ replicate s.n 0) s.n (range_node_len t is.law s is.width r)

-- the tag is the node's
pub tag-right : (t : MerkleTree) (s : Shape) (v : ℕ) (rest : List ℕ) (tag : ℕ → List ℕ → List ℕ) (bytes : List ℕ) (first : ℕ) → AreOfTree t s v rest tag bytes first
    → (r : ℕ) → r < 2 ^ s.levels → tag r (node_given s bytes (first + r)) ≡ tag_given s bytes (first + r)
tag-right t s v rest tag bytes first is r lt =
    let x = node t (below s) r in
    let own = own_part t s v rest r in
    let read : tag_given s bytes (first + r) ≡ tag r x =
    ap (λ (xs : List ℕ). take s.n (drop s.n xs)) (is.each r lt ∙ append_assoc x (tag r x) own)
    ∙ ap (take s.n) (drop_at x (tag r x ++ own) s.n (range_node_len t is.law s is.width r))
    ∙ take_front (tag r x) own s.n (is.tag_len r x) in
    ap (tag r) (node-right t s v rest tag bytes first is r lt) ∙ sym read

-- what follows the tag where the leaf is one of the range
own-right : (t : MerkleTree) (s : Shape) (v : ℕ) (rest : List ℕ) (tag : ℕ → List ℕ → List ℕ) (bytes : List ℕ) (first : ℕ) → AreOfTree t s v rest tag bytes first
    → drop (2 * s.n) (given s bytes (first + v / 2 ^ below s)) ≡ path_below t v (below s) ++ rest
own-right t s v rest tag bytes first is =
    let r = v / 2 ^ below s in
    let x = node t (below s) r in
    let own = own_part t s v rest r in
    let front : length (x ++ tag r x) ≡ 2 * s.n = length-append x (tag r x) ∙ omega (arith, range_node_len t is.law s is.width r, is.tag_len r x) in
    ap (drop (2 * s.n)) (is.each r (range_below s is.shape v is.leaf))
    ∙ drop_at (x ++ tag r x) own (2 * s.n) front
    ∙ cond-true (eqb r r) _ _ (eq-eqb r r refl)

lower_len : (t : MerkleTree) → Lawful t → (s : Shape) → s.n ≡ t.width → (v : ℕ) → length (path_below t v (below s)) ≡ below s * s.n
lower_len t law s width v = length-path_below t law v (below s) ∙ ap (λ (w : ℕ). below s * w) (sym width)

-- the lower nodes of the path, and what follows them
lower-right : (t : MerkleTree) (s : Shape) (v : ℕ) (rest : List ℕ) (tag : ℕ → List ℕ → List ℕ) (bytes : List ℕ) (first : ℕ) → AreOfTree t s v rest tag bytes first
    → path_given s bytes (first + v / 2 ^ below s) ≡ path_below t v (below s)
lower-right t s v rest tag bytes first is =
    ap (take (below s * s.n)) (own-right t s v rest tag bytes first is)
    ∙ take_front (path_below t v (below s)) rest (below s * s.n) (lower_len t is.law s is.width v)

pub rest-right : (t : MerkleTree) (s : Shape) (v : ℕ) (rest : List ℕ) (tag : ℕ → List ℕ → List ℕ) (bytes : List ℕ) (first : ℕ) → AreOfTree t s v rest tag bytes first
    → rest_given s bytes (first + v / 2 ^ below s) ≡ rest
rest-right t s v rest tag bytes first is =
    ap (drop (below s * s.n)) (own-right t s v rest tag bytes first is)
    ∙ drop_at (path_below t v (below s)) rest (below s * s.n) (lower_len t is.law s is.width v)

-- where the nodes are the ranges', those above them are the tree's
top-nodes : (t : MerkleTree) (s : Shape) (bytes : List ℕ) (first : ℕ)
    → ((r : ℕ) → r < 2 ^ s.levels → node_given s bytes (first + r) ≡ node t (below s) r)
    → (z i : ℕ) → z ≤ s.levels → i < 2 ^ (s.levels - z) → node (upper_given t s bytes first) z i ≡ node t (below s + z) i
unfolding node
top-nodes t s bytes first own zero i le lt =
    let whole : s.levels - 0 ≡ s.levels = omega arith in
    let none : below s ≡ below s + 0 = omega arith in
    own i (rw whole at lt) ∙ ap (λ (k : ℕ). node t k i) none
top-nodes t s bytes first own (suc z) i le lt =
    let next : suc (below s + z) ≡ below s + suc z = omega arith in
    let up : s.levels - z ≡ s.levels - suc z + 1 = omega arith in
    let twice : 2 ^ (s.levels - z) ≡ 2 ^ (s.levels - suc z) * 2 = ap (λ (k : ℕ). 2 ^ k) up ∙ rw add-one (pow-suc 2 (s.levels - suc z)) in
    let left = top-nodes t s bytes first own z (2 * i) (omega arith) (omega (arith, twice)) in
    let right = top-nodes t s bytes first own z (2 * i + 1) (omega arith) (omega (arith, twice)) in
    ap (λ (x : List ℕ). t.join (below s + suc z) i x (node (upper_given t s bytes first) z (2 * i + 1))) left
    ∙ ap (λ (y : List ℕ). t.join (below s + suc z) i (node t (below s + z) (2 * i)) y) right
    ∙ ap (λ (k : ℕ). t.join k i (node t (below s + z) (2 * i)) (node t (below s + z) (2 * i + 1))) (sym next)
    ∙ ap (λ (k : ℕ). node t k i) next

-- so the root that they give is the tree's
pub root-nodes : (t : MerkleTree) (s : Shape) (bytes : List ℕ) (first : ℕ) → s.levels ≤ s.height → s.height ≡ t.height
    → ((r : ℕ) → r < 2 ^ s.levels → node_given s bytes (first + r) ≡ node t (below s) r)
    → root (upper_given t s bytes first) ≡ root t
root-nodes t s bytes first some height own =
    let one : s.levels - s.levels ≡ 0 = omega arith in
    let first_node : 0 < 2 ^ (s.levels - s.levels) = rw one (omega arith) in
    let high : below s + s.levels ≡ t.height = omega (arith, some, height) in
    top-nodes t s bytes first own s.levels 0 (omega arith) first_node ∙ ap (λ (k : ℕ). node t k 0) high

pub root-right : (t : MerkleTree) (s : Shape) (v : ℕ) (rest : List ℕ) (tag : ℕ → List ℕ → List ℕ) (bytes : List ℕ) (first : ℕ) → AreOfTree t s v rest tag bytes first
    → root (upper_given t s bytes first) ≡ root t
root-right t s v rest tag bytes first is = root-nodes t s bytes first is.shape.some is.height (node-right t s v rest tag bytes first is)

-- and the path of the leaf's range, after that below it, the leaf's
above-right : (t : MerkleTree) (s : Shape) (v : ℕ) (rest : List ℕ) (tag : ℕ → List ℕ → List ℕ) (bytes : List ℕ) (first : ℕ) → AreOfTree t s v rest tag bytes first
    → (j : ℕ) → j ≤ s.levels → path_below t v (below s) ++ path_below (upper_given t s bytes first) (v / 2 ^ below s) j ≡ path_below t v (below s + j)
unfolding path_below
above-right t s v rest tag bytes first is zero le =
    let none : below s ≡ below s + 0 = omega arith in
    append-nil (path_below t v (below s)) ∙ ap (path_below t v) none
above-right t s v rest tag bytes first is (suc j) le =
    let r = v / 2 ^ below s in
    let top = upper_given t s bytes first in
    let own : r / 2 ^ j < 2 ^ (s.levels - j) = branch_below r s.levels j (range_below s is.shape v is.leaf) (omega arith) in
    let one : 1 < 2 ^ (s.levels - j) = pow_below 0 (s.levels - j) (omega arith) in
    let inside : bit_xor (r / 2 ^ j) 1 < 2 ^ (s.levels - j) = xor_lt (s.levels - j) (r / 2 ^ j) 1 own one in
    let here : sibling top r j ≡ sibling t v (below s + j) =
    top-nodes t s bytes first (node-right t s v rest tag bytes first is) j (bit_xor (r / 2 ^ j) 1) (omega arith) inside
    ∙ ap (λ (k : ℕ). node t (below s + j) (bit_xor k 1)) (shr-shr v (below s) j) in
    sym (append_assoc (path_below t v (below s)) (path_below top r j) (sibling top r j))
    ∙ ap (λ (xs : List ℕ). xs ++ sibling top r j) (above-right t s v rest tag bytes first is j (omega arith))
    ∙ ap (λ (y : List ℕ). path_below t v (below s + j) ++ y) here
    ∙ ap (path_below t v) (let next : suc (below s + j) ≡ below s + suc j = omega arith in next)

pub auth-right : (t : MerkleTree) (s : Shape) (v : ℕ) (rest : List ℕ) (tag : ℕ → List ℕ → List ℕ) (bytes : List ℕ) (first : ℕ) → AreOfTree t s v rest tag bytes first
    → auth_given t s bytes first v ≡ path t v
auth-right t s v rest tag bytes first is =
    let high : below s + s.levels ≡ t.height = omega (arith, is.shape.some, is.height) in
    ap (λ (xs : List ℕ). xs ++ path (upper_given t s bytes first) (v / 2 ^ below s)) (lower-right t s v rest tag bytes first is)
    ∙ above-right t s v rest tag bytes first is s.levels (omega arith)
    ∙ ap (path_below t v) high
