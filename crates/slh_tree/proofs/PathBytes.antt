-- The bytes of a path, node by node.
use Rattle.std.proofs.Common.{◌≡◌, ℕ, suc, ◌+◌, ◌*◌, ◌<◌, ◌≤◌, ◌++◌, List, length, take, arith, sym, ap, subst, ◌∙◌}
use Rattle.std.proofs.Math.Nat.{mul-le-mul_right}
use Rattle.slh_tree.specs.Tree.{MerkleTree, Lawful, sibling, sibling_index}
use Rattle.slh_tree.specs.Climb.{path_below}
use Rattle.slh_tree.proofs.Authentic.{node_width}

-- no byte of the path is written yet
pub path_below-none : (t : MerkleTree) (i : ℕ) (out : List ℕ) → take (0 * t.width) out ≡ path_below t i 0
unfolding path_below
path_below-none t i out = let e : 0 * t.width ≡ 0 = omega arith in ap (λ (n : ℕ). take n out) e

-- one node more of the path
pub path_below-more :
    (t : MerkleTree) →
    Lawful t →
    (i j n : ℕ) (out new x : List ℕ) →
    x ≡ sibling t i j →
    n ≡ length x →
    take (j * t.width) out ≡ path_below t i j →
    take (j * n + length x) new ≡ take (j * n) out ++ x →
    take ((j + 1) * t.width) new ≡ path_below t i (j + 1)
unfolding path_below
path_below-more t law i j n out new x is len below written =
    let width : length x ≡ t.width = ap length is ∙ node_width t law j (sibling_index i j) in
    let size : n ≡ t.width = len ∙ width in
    let total : (j + 1) * t.width ≡ j * n + length x = ap (λ (w : ℕ). (j + 1) * w) (sym size) ∙ omega (arith, len) in
    let step : suc j ≡ j + 1 = omega arith in
    let At : ℕ → Type 0 = λ k. take ((j + 1) * t.width) new ≡ path_below t i k in
    let done : take ((j + 1) * t.width) new ≡ path_below t i j ++ sibling t i j =
    ap (λ (m : ℕ). take m new) total
    ∙ written
    ∙ ap (λ (w : ℕ). take (j * w) out ++ x) size
    ∙ ap (λ (ys : List ℕ). ys ++ x) below
    ∙ ap (λ (ys : List ℕ). path_below t i j ++ ys) is
    in
    subst At step done

-- a node of the path fits into the bytes of the path
pub node_fits : (t : MerkleTree) → Lawful t → (i j n m : ℕ) (x : List ℕ) → x ≡ sibling t i j → n ≡ length x → j < t.height → m ≡ t.height * t.width → j * n + length x ≤ m
node_fits t law i j n m x is len below size =
    let width : length x ≡ t.width = ap length is ∙ node_width t law j (sibling_index i j) in
    let whole : (j + 1) * t.width ≤ t.height * t.width = mul-le-mul_right t.width (let k : j + 1 ≤ t.height = omega arith in k) in
    let here : j * n ≡ j * t.width = ap (λ (w : ℕ). j * w) (len ∙ width) in
    omega (arith, here)
