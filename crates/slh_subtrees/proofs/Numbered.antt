-- A job by its number.
use Rattle.std.proofs.Common.{◌≡◌, ℕ, ◌+◌, ◌-◌, ◌*◌, ◌^◌, ◌/◌, ◌%◌, ◌<◌, ◌≤◌, List, [], ◌∷◌, ◌++◌, length, length-append, get_or, Some, sym, ◌∙◌, ap, subst, arith}
use Rattle.std.specs.List.{flat_map, range_with_len, slice_get}
use Rattle.std.specs.Option.{option_map}
use Rattle.std.proofs.lemmas.List.{length-map, get_or_append_left, get_or-append-add}
use Rattle.std.proofs.lemmas.Option.{slice_get-get_or, slice_get-map, slice_get_within}
use Rattle.slh_params.specs.ParamSet.{params}
use Rattle.slh_subtrees.specs.CutTrees.{CutTrees}
use Rattle.slh_subtrees.specs.Points.{EndToEnd}
use Rattle.slh_subtrees.specs.Jobs.{IsTreeOf, height_of, cut_points_of, tree_ranges, tree_jobs, signing_jobs, key_generation_jobs, first_job_of}
use Rattle.slh_subtrees.specs.declared.range.JobTree.{JobTree}
use Rattle.slh_subtrees.specs.declared.range.JobTree.TheVariants.{Xmss, Fors}
use Rattle.slh_subtrees.specs.declared.range.JobRange.{JobRange}
use Rattle.slh_params.proofs.Bounds.{d_low}
use Rattle.slh_subtrees.proofs.Ranges.{length-ranges, lo-ranges, hi-ranges}
use Rattle.slh_subtrees.proofs.Pieces.{length-pieces, at-pieces, below_pieces, piece_below}
use Rattle.slh_subtrees.proofs.Ends.{end_to_end-at}

abbrev pub in_tree : JobTree → ℕ × ℕ → JobRange
in_tree tree r = record { tree = tree; lo = r.0; hi = r.1 }

pub length-tree_jobs : (c : CutTrees) (tree : JobTree) → length (tree_jobs c tree) ≡ length (cut_points_of c tree) + 1
length-tree_jobs c tree =
    length-map (tree_ranges c tree) (in_tree tree) ∙ length-ranges 0 (cut_points_of c tree) (2 ^ height_of (params c.set) tree)

pub length-key_generation_jobs : (c : CutTrees) → length (key_generation_jobs c) ≡ length c.xmss + 1
length-key_generation_jobs c = length-tree_jobs c (Xmss ((params c.set).d - 1))

abbrev xmss_jobs : CutTrees → List JobRange
xmss_jobs c = flat_map (λ layer. tree_jobs c (Xmss layer)) (range_with_len 0 (params c.set).d)

abbrev fors_jobs : CutTrees → List JobRange
fors_jobs c = flat_map (λ number. tree_jobs c (Fors number)) (range_with_len 0 (params c.set).k)

length-xmss_jobs : (c : CutTrees) → length (xmss_jobs c) ≡ (params c.set).d * (length c.xmss + 1)
length-xmss_jobs c = length-pieces (λ layer. tree_jobs c (Xmss layer)) (length c.xmss + 1) 0 (params c.set).d (λ t. length-tree_jobs c (Xmss t))

length-fors_jobs : (c : CutTrees) → length (fors_jobs c) ≡ (params c.set).k * (length c.fors + 1)
length-fors_jobs c = length-pieces (λ number. tree_jobs c (Fors number)) (length c.fors + 1) 0 (params c.set).k (λ t. length-tree_jobs c (Fors t))

pub length-signing_jobs : (c : CutTrees) → length (signing_jobs c) ≡ (params c.set).d * (length c.xmss + 1) + (params c.set).k * (length c.fors + 1)
length-signing_jobs c =
    length-append (xmss_jobs c) (fors_jobs c) ∙ ap (λ v. v + length (fors_jobs c)) (length-xmss_jobs c)
    ∙ ap (λ v. (params c.set).d * (length c.xmss + 1) + v) (length-fors_jobs c)

-- range r of a tree, as a job
pub record IsRange (c : CutTrees) (tree : JobTree) (r lo hi : ℕ) : Type 0 where
  pub leaves : slice_get (tree_ranges c tree) r ≡ Some (lo, hi)
  pub job : slice_get (tree_jobs c tree) r ≡ Some (in_tree tree (lo, hi))
  pub some : lo < hi
  pub within : hi ≤ 2 ^ height_of (params c.set) tree

-- it goes from the point before it, or 0, to the next point, or the end
pub range-between : (c : CutTrees) (tree : JobTree) (points : List ℕ) (r lo hi : ℕ) → points ≡ cut_points_of c tree
    → EndToEnd 0 (2 ^ height_of (params c.set) tree) (tree_ranges c tree) → r < length (tree_jobs c tree) → lo ≡ get_or (0 ∷ points) r 0
    → hi ≡ get_or (points ++ 2 ^ height_of (params c.set) tree ∷ []) r 0 → IsRange c tree r lo hi
range-between c tree points r lo hi same ends here e f =
    let leaves = 2 ^ height_of (params c.set) tree in
    let short : r < length (cut_points_of c tree) + 1 = omega (arith, length-tree_jobs c tree) in
    let there : r < length (tree_ranges c tree) = omega (arith, length-ranges 0 (cut_points_of c tree) leaves) in
    let lo_is : lo ≡ (get_or (tree_ranges c tree) r (0, 0)).0 =
    e ∙ ap (λ v. get_or (0 ∷ v) r 0) same ∙ sym (lo-ranges 0 (cut_points_of c tree) leaves r (0, 0) short) in
    let hi_is : hi ≡ (get_or (tree_ranges c tree) r (0, 0)).1 =
    f ∙ ap (λ v. get_or (v ++ leaves ∷ []) r 0) same ∙ sym (hi-ranges 0 (cut_points_of c tree) leaves r (0, 0) short) in
    let fits = end_to_end-at 0 leaves (tree_ranges c tree) r (0, 0) ends there in
    let pair : (lo, hi) ≡ get_or (tree_ranges c tree) r (0, 0) =
    ap (λ v. (v, hi)) lo_is ∙ ap (λ v. ((get_or (tree_ranges c tree) r (0, 0)).0, v)) hi_is in
    let leaves_at : slice_get (tree_ranges c tree) r ≡ Some (lo, hi) =
    slice_get-get_or (tree_ranges c tree) r (0, 0) there ∙ ap Some (sym pair) in
    record {
      leaves = leaves_at;
      job = slice_get-map (in_tree tree) (tree_ranges c tree) r ∙ ap (λ v. option_map (in_tree tree) v) leaves_at;
      some = omega (arith, lo_is, hi_is, fits.0);
      within = omega (arith, hi_is, fits.1);
    }

signing_jobs-xmss : (c : CutTrees) (layer r : ℕ) (d : JobRange) → layer < (params c.set).d → r < length c.xmss + 1
    → get_or (signing_jobs c) (layer * (length c.xmss + 1) + r) d ≡ get_or (tree_jobs c (Xmss layer)) r d
signing_jobs-xmss c layer r d there here =
    let few : layer * (length c.xmss + 1) + r < length (xmss_jobs c) =
    omega (arith, length-xmss_jobs c, below_pieces (length c.xmss + 1) (params c.set).d layer r there here) in
    get_or_append_left (xmss_jobs c) (fors_jobs c) d (layer * (length c.xmss + 1) + r) few
    ∙ at-pieces (λ v. tree_jobs c (Xmss v)) (length c.xmss + 1) 0 (params c.set).d layer r d (λ t. length-tree_jobs c (Xmss t)) there here
    ∙ ap (λ v. get_or (tree_jobs c (Xmss v)) r d) (let q : 0 + layer ≡ layer = omega arith in q)

signing_jobs-fors : (c : CutTrees) (number r : ℕ) (d : JobRange) → number < (params c.set).k → r < length c.fors + 1
    → get_or (signing_jobs c) ((params c.set).d * (length c.xmss + 1) + number * (length c.fors + 1) + r) d ≡ get_or (tree_jobs c (Fors number)) r d
signing_jobs-fors c number r d there here =
    ap (λ v. get_or (signing_jobs c) v d)
    (let q : (params c.set).d * (length c.xmss + 1) + number * (length c.fors + 1) + r ≡ length (xmss_jobs c) + (number * (length c.fors + 1) + r) = omega (arith, length-xmss_jobs c) in q)
    ∙ get_or-append-add (xmss_jobs c) (fors_jobs c) (number * (length c.fors + 1) + r) d
    ∙ at-pieces (λ v. tree_jobs c (Fors v)) (length c.fors + 1) 0 (params c.set).k number r d (λ t. length-tree_jobs c (Fors t)) there here
    ∙ ap (λ v. get_or (tree_jobs c (Fors v)) r d) (let q : 0 + number ≡ number = omega arith in q)

-- the range r of a tree is the job r after the tree's first
pub signing_jobs-tree : (c : CutTrees) (tree : JobTree) (r : ℕ) (d : JobRange) → IsTreeOf (params c.set) tree → r < length (cut_points_of c tree) + 1
    → get_or (signing_jobs c) (first_job_of c tree + r) d ≡ get_or (tree_jobs c tree) r d
signing_jobs-tree c (Xmss layer) r d there here = signing_jobs-xmss c layer r d there here
signing_jobs-tree c (Fors number) r d there here = signing_jobs-fors c number r d there here

-- it is one of the jobs
pub first_job-below : (c : CutTrees) (tree : JobTree) (r : ℕ) → IsTreeOf (params c.set) tree → r < length (cut_points_of c tree) + 1
    → first_job_of c tree + r < length (signing_jobs c)
first_job-below c (Xmss layer) r there here =
    omega (arith, length-signing_jobs c, below_pieces (length c.xmss + 1) (params c.set).d layer r there here)
first_job-below c (Fors number) r there here =
    omega (arith, length-signing_jobs c, below_pieces (length c.fors + 1) (params c.set).k number r there here)

-- the same without a default
pub slice_get-tree : (c : CutTrees) (tree : JobTree) (r : ℕ) → IsTreeOf (params c.set) tree → r < length (tree_jobs c tree)
    → slice_get (signing_jobs c) (first_job_of c tree + r) ≡ slice_get (tree_jobs c tree) r
slice_get-tree c tree r there here =
    let none : JobRange = record { tree = tree; lo = 0; hi = 0 } in
    let short : r < length (cut_points_of c tree) + 1 = omega (arith, length-tree_jobs c tree) in
    slice_get-get_or (signing_jobs c) (first_job_of c tree + r) none (first_job-below c tree r there short)
    ∙ ap Some (signing_jobs-tree c tree r none there short) ∙ sym (slice_get-get_or (tree_jobs c tree) r none here)

-- the same from the first job's number
pub slice_get-first : (c : CutTrees) (tree : JobTree) (n r : ℕ) → n ≡ first_job_of c tree → IsTreeOf (params c.set) tree → r < length (tree_jobs c tree)
    → slice_get (signing_jobs c) (n + r) ≡ slice_get (tree_jobs c tree) r
slice_get-first c tree n r is there here = ap (λ v. slice_get (signing_jobs c) (v + r)) is ∙ slice_get-tree c tree r there here

-- a remainder is the number of a range
pub remainder-below : (c : CutTrees) (tree : JobTree) (n each : ℕ) → each ≡ length (cut_points_of c tree) + 1 → n % each < length (tree_jobs c tree)
remainder-below c tree n each is =
    let some : 0 < each = omega (arith, is) in
    let below : n % each < each = omega arith in
    omega (arith, below, is, length-tree_jobs c tree)

-- A job of an XMSS tree by its number: the tree by division, and its range by the remainder
pub job-xmss : (c : CutTrees) (n d each : ℕ) (x : JobRange) → d ≡ (params c.set).d → each ≡ length c.xmss + 1 → n < d * each
    → slice_get (tree_jobs c (Xmss (n / each))) (n % each) ≡ Some x → slice_get (signing_jobs c) n ≡ Some x
job-xmss c n d each x d_is is below at =
    let some : 0 < each = omega (arith, is) in
    let there : n / each < (params c.set).d = omega (arith, piece_below each d n some below, d_is) in
    let number : n ≡ n / each * (length c.xmss + 1) + n % each =
    (let q : n ≡ n / each * each + n % each = omega arith in q) ∙ ap (λ v. n / each * v + n % each) is in
    ap (λ v. slice_get (signing_jobs c) v) number ∙ slice_get-tree c (Xmss (n / each)) (n % each) there (remainder-below c (Xmss (n / each)) n each is) ∙ at

-- what is left of the number of a FORS tree's job
pub record IsForsRest (c : CutTrees) (n m : ℕ) : Type 0 where
  pub after : n ≡ (params c.set).d * (length c.xmss + 1) + m
  pub below : m < (params c.set).k * (length c.fors + 1)

pub fors_rest : (c : CutTrees) (n d each before : ℕ) → d ≡ (params c.set).d → each ≡ length c.xmss + 1 → before ≡ d * each → before ≤ n
    → n < length (signing_jobs c) → IsForsRest c n (n - before)
fors_rest c n d each before d_is is product past below =
    let b : before ≡ (params c.set).d * (length c.xmss + 1) = product ∙ ap (λ v. v * each) d_is ∙ ap (λ v. (params c.set).d * v) is in
    record {
      after = omega (arith, b, past);
      below = omega (arith, b, past, length-signing_jobs c, below);
    }

-- the tree of a FORS tree's job
pub tree-fors : (c : CutTrees) (n m each : ℕ) → IsForsRest c n m → each ≡ length c.fors + 1 → m / each < (params c.set).k
tree-fors c n m each rest is =
    piece_below each (params c.set).k m (omega (arith, is)) (subst (λ v. m < (params c.set).k * v) (sym is) rest.below)

-- A job of a FORS tree by what is left of its number
pub job-fors : (c : CutTrees) (n m each : ℕ) (x : JobRange) → IsForsRest c n m → each ≡ length c.fors + 1
    → slice_get (tree_jobs c (Fors (m / each))) (m % each) ≡ Some x → slice_get (signing_jobs c) n ≡ Some x
job-fors c n m each x rest is at =
    let some : 0 < each = omega (arith, is) in
    let left : m ≡ m / each * (length c.fors + 1) + m % each =
    (let q : m ≡ m / each * each + m % each = omega arith in q) ∙ ap (λ v. m / each * v + m % each) is in
    let number : n ≡ (params c.set).d * (length c.xmss + 1) + m / each * (length c.fors + 1) + m % each = omega (arith, left, rest.after) in
    ap (λ v. slice_get (signing_jobs c) v) number
    ∙ slice_get-tree c (Fors (m / each)) (m % each) (tree-fors c n m each rest is) (remainder-below c (Fors (m / each)) m each is) ∙ at

-- a range of the XMSS tree of layer 0 is the signing job of its number
pub job-layer_zero : (c : CutTrees) (r lo hi : ℕ) → slice_get (tree_ranges c (Xmss 0)) r ≡ Some (lo, hi)
    → slice_get (signing_jobs c) r ≡ Some (in_tree (Xmss 0) (lo, hi))
job-layer_zero c r lo hi at =
    let within : r < length (tree_ranges c (Xmss 0)) = slice_get_within (tree_ranges c (Xmss 0)) r (lo, hi) at in
    let here : r < length (tree_jobs c (Xmss 0)) = omega (arith, within, length-map (tree_ranges c (Xmss 0)) (in_tree (Xmss 0))) in
    ap (λ v. slice_get (signing_jobs c) v) (let e : r ≡ 0 + r = omega arith in e) ∙ slice_get-first c (Xmss 0) 0 r (let e : 0 ≡ 0 * (length c.xmss + 1) = omega arith in e) (d_low c.set) here
    ∙ slice_get-map (in_tree (Xmss 0)) (tree_ranges c (Xmss 0)) r ∙ ap (λ v. option_map (in_tree (Xmss 0)) v) at
