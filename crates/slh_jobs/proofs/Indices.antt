-- The ranges of a tree, and the leaves of each.
use Rattle.std.proofs.Common.{◌≡◌, ℕ, ◌+◌, ◌-◌, ◌*◌, ◌/◌, ◌^◌, ◌<◌, ◌≤◌, List, length, refl, inl, inr, arith, sym, subst, ap, ◌∙◌}
use Rattle.std.proofs.Math.Nat.{mul-le-mul, mul-le-mul_right, mod-lt, div-lt_iff_lt-mul}
use Rattle.std.proofs.lemmas.Nat.{pow_pos, pow-add}
use Rattle.std.proofs.lemmas.Bool.{cases_lt}
use Rattle.slh_params.specs.Params.{Params}
use Rattle.slh_params.specs.declared.param_set.ParamSet.{ParamSet}
use Rattle.slh_few.specs.Fors.{fors_part_len}
use Rattle.slh_core.specs.DigestParts.{idx_leaf}
use Rattle.std.proofs.Math.Pow.{pow_mono}
use Rattle.slh_tree.proofs.Branch.{branch_below}
use Rattle.slh_subtrees.specs.Jobs.{IsTreeOf, height_of}
use Rattle.slh_subtrees.specs.declared.range.JobTree.{JobTree}
use Rattle.slh_subtrees.specs.declared.range.JobTree.TheVariants.{Xmss, Fors}
use Rattle.slh_jobs.specs.Ranges.{below, answer_len, IsShape}
use Rattle.slh_jobs.specs.Joined.{fors_answers, answers_of_kind}
use Rattle.slh_params.specs.ParamSet.{params}
use Rattle.slh_params.proofs.Bounds.{n_low, n_high, hp_high, a_high}
use Rattle.slh_jobs.specs.Jobs.{xmss_shape, fors_shape, shape_of, xmss_jobs, fors_jobs, first_of_kind}
use Rattle.slh_jobs.specs.declared.levels.Levels.{Levels}
use Rattle.slh_jobs.specs.declared.shape.Shape.{Shape}

-- the range of a leaf is one of the tree's
pub range_below : (s : Shape) → IsShape s → (v : ℕ) → v < 2 ^ s.height → v / 2 ^ below s < 2 ^ s.levels
range_below s shape v lt =
    let bound = branch_below v s.height (below s) lt (omega (arith, shape.some)) in
    let left : s.height - below s ≡ s.levels = omega (arith, shape.some) in
    rw left at bound

-- the same where the height is given by its value
pub range_at : (s : Shape) → IsShape s → (v h : ℕ) → s.height ≡ h → v < 2 ^ h → v / 2 ^ below s < 2 ^ s.levels
range_at s shape v h e lt = let own : v < 2 ^ s.height = rw e lt in range_below s shape v own

-- the leaves of a range are the tree's
pub range_within : (s : Shape) → IsShape s → (r : ℕ) → r < 2 ^ s.levels → (r + 1) * 2 ^ below s ≤ 2 ^ s.height
range_within s shape r lt =
    let rows : (r + 1) * 2 ^ below s ≤ 2 ^ s.levels * 2 ^ below s = mul-le-mul_right (2 ^ below s) (let le : r + 1 ≤ 2 ^ s.levels = omega arith in le) in
    let both : s.levels + below s ≡ s.height = omega (arith, shape.some) in
    let split : 2 ^ s.levels * 2 ^ below s ≡ 2 ^ s.height = sym (pow-add 2 s.levels (below s)) ∙ ap (λ (k : ℕ). 2 ^ k) both in
    omega (arith, rows, split)

-- the number of a job, by tree and range
pub tree_of_job : (n trees levels : ℕ) → n < trees * 2 ^ levels → n / 2 ^ levels < trees
tree_of_job n trees levels lt = (div-lt_iff_lt-mul {k = 2 ^ levels} {x = n} {y = trees} (pow_pos levels)).1 lt

-- the number of the range of a tree among those of all trees
pub number_below : (l r levels trees : ℕ) → l < trees → r < 2 ^ levels → l * 2 ^ levels + r < trees * 2 ^ levels
number_below l r levels trees ll lr =
    let rows : (l + 1) * 2 ^ levels ≤ trees * 2 ^ levels = mul-le-mul_right (2 ^ levels) (let le : l + 1 ≤ trees = omega arith in le) in
    omega (arith, rows)

-- a path is that below the ranges and that above them
pub path_lengths : (s : Shape) → IsShape s → below s * s.n + s.levels * s.n ≡ s.height * s.n
path_lengths s shape =
    let both : below s + s.levels ≡ s.height = omega (arith, shape.some) in
    let sum : below s * s.n + s.levels * s.n ≡ (below s + s.levels) * s.n = omega arith in
    sum ∙ ap (λ h. h * s.n) both

-- an answer of a tree's ranges is there
pub answer_there : (first r levels len all : ℕ) → r < 2 ^ levels → (first + 2 ^ levels) * len ≤ all → (first + r + 1) * len ≤ all
answer_there first r levels len all lt room =
    let step : (first + r + 1) * len ≤ (first + 2 ^ levels) * len = mul-le-mul_right len (let le : first + r + 1 ≤ first + 2 ^ levels = omega arith in le) in
    omega (arith, step)

-- a tree is cut into at most 256 ranges
pub ranges_few : (levels : ℕ) → levels ≤ 8 → 2 ^ levels ≤ 256
ranges_few levels h = pow_mono h

-- a digest names a leaf of its tree
pub leaf_below : (p : Params) (digest : List ℕ) → idx_leaf p digest < 2 ^ p.hp
unfolding idx_leaf
leaf_below p digest = mod-lt _ (pow_pos p.hp)

-- the shapes of both kinds of trees
pub xmss_is_shape : (c : Levels) → IsShape (xmss_shape c)
xmss_is_shape c = record {
  high = omega (arith, hp_high c.set);
  some = c.xmss_high;
  few = c.xmss_few;
  n_low = omega (arith, n_low c.set);
  n_high = n_high c.set;
}

pub fors_is_shape : (c : Levels) → IsShape (fors_shape c)
fors_is_shape c = record {
  high = a_high c.set;
  some = c.fors_high;
  few = c.fors_few;
  n_low = omega (arith, n_low c.set);
  n_high = n_high c.set;
}

-- the answers of one tree are among those of all trees
pub tree_there : (l trees levels len all : ℕ) → l < trees → trees * 2 ^ levels * len ≤ all → (l * 2 ^ levels + 2 ^ levels) * len ≤ all
tree_there l trees levels len all lt room =
    let ranges : (l + 1) * 2 ^ levels ≤ trees * 2 ^ levels = mul-le-mul_right (2 ^ levels) (let le : l + 1 ≤ trees = omega arith in le) in
    let bytes : (l * 2 ^ levels + 2 ^ levels) * len ≤ trees * 2 ^ levels * len = mul-le-mul_right len (let le : l * 2 ^ levels + 2 ^ levels ≤ trees * 2 ^ levels = omega (arith, ranges) in le) in
    omega (arith, bytes)

-- the shape of a tree, by the tree
pub tree_is_shape : (c : Levels) (tree : JobTree) → IsShape (shape_of c tree)
tree_is_shape c (Xmss l) = xmss_is_shape c
tree_is_shape c (Fors j) = fors_is_shape c

pub shape-height : (c : Levels) (tree : JobTree) → (shape_of c tree).height ≡ height_of (params c.set) tree
shape-height c (Xmss l) = refl
shape-height c (Fors j) = refl

pub shape-n : (c : Levels) (tree : JobTree) → (shape_of c tree).n ≡ (params c.set).n
shape-n c (Xmss l) = refl
shape-n c (Fors j) = refl

-- the range of a leaf of the tree is one of its ranges
pub tree_range_at : (c : Levels) (tree : JobTree) (v : ℕ) → v < 2 ^ height_of (params c.set) tree → v / 2 ^ below (shape_of c tree) < 2 ^ (shape_of c tree).levels
tree_range_at c tree v lt = range_at (shape_of c tree) (tree_is_shape c tree) v (height_of (params c.set) tree) (shape-height c tree) lt

-- the answers of the tree are among those of the trees of its kind
pub answers_there : (c : Levels) (bytes : List ℕ) (tree : JobTree) → IsTreeOf (params c.set) tree
    → xmss_jobs c * answer_len (xmss_shape c) ≤ length bytes → fors_jobs c * answer_len (fors_shape c) ≤ length (fors_answers c bytes)
    → (first_of_kind c tree + 2 ^ (shape_of c tree).levels) * answer_len (shape_of c tree) ≤ length (answers_of_kind c bytes tree)
answers_there c bytes (Xmss l) lt xmss fors = tree_there l (params c.set).d c.xmss _ _ lt xmss
answers_there c bytes (Fors j) lt xmss fors = tree_there j (params c.set).k c.fors _ _ lt fors

-- a FORS tree's part of a signature has at most 480 bytes
pub fors_part_few : (s : ParamSet) → fors_part_len (params s) ≤ 480
fors_part_few s = mul-le-mul {n₂ = 15} (omega (arith, a_high s)) (n_high s)

-- what holds below a number and at it
pub below_more : (P : ℕ → Type 0) (n : ℕ) → ((i : ℕ) → i < n → P i) → P n → (i : ℕ) → i < n + 1 → P i
below_more P n all here i lt =
    elim (cases_lt i n) [
      | inl less ↦ all i less
      | inr ge ↦ let same : n ≡ i = omega arith in subst P same here
    ]
