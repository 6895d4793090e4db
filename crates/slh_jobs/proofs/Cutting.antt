-- The jobs are those of the cutting that the levels are.
use Rattle.std.proofs.Common.{◌≡◌, ℕ, ◌+◌, ◌-◌, ◌*◌, ◌/◌, ◌%◌, ◌^◌, ◌<◌, ◌≤◌, nat_lt, true, false, Some, length, inl, inr, ap, sym, ◌∙◌, arith, rules}
use Rattle.std.specs.List.{slice_get, range_with_len}
use Rattle.std.specs.Option.{option_map}
use Rattle.std.proofs.Math.Nat.{mod-lt}
use Rattle.std.proofs.lemmas.Bool.{cases_lt}
use Rattle.std.proofs.lemmas.List.FromFn.{get_or-range_with_len, length-range_with_len, length-map-range_with_len}
use Rattle.std.proofs.lemmas.Nat.{pow_pos}
use Rattle.std.proofs.lemmas.Option.{slice_get_read, slice_get-map}
use Rattle.slh_subtrees.specs.Jobs.{IsTreeOf, cut_points_of, tree_ranges, tree_jobs, signing_jobs, first_job_of}
use Rattle.slh_subtrees.specs.Points.{level_points, ranges}
use Rattle.slh_subtrees.specs.declared.range.JobTree.{JobTree}
use Rattle.slh_subtrees.specs.declared.range.JobTree.TheVariants.{Xmss, Fors}
use Rattle.slh_subtrees.specs.declared.range.JobRange.{JobRange}
use Rattle.slh_subtrees.proofs.Levels.{ranges-level_points}
use Rattle.slh_subtrees.proofs.Numbered.{length-tree_jobs, slice_get-first}
use Rattle.slh_jobs.specs.Jobs.{params_of, xmss_jobs, fors_jobs, jobs, shape_of, cut_by, job_at}
use Rattle.slh_jobs.specs.Ranges.{below}
use Rattle.slh_jobs.specs.declared.levels.Levels.{Levels}
use Rattle.slh_jobs.proofs.Indices.{tree_of_job}

-- a tree that is cut by levels has so many ranges
ranges_count : (height level : ℕ) → length (level_points height level) + 1 ≡ 2 ^ level
ranges_count height level =
    omega (arith, pow_pos level, length-map-range_with_len (λ i. i * 2 ^ (height - level)) 1 (2 ^ level - 1))

-- the levels of the trees of a tree's kind
tree_levels : (c : Levels) (tree : JobTree) → length (cut_points_of (cut_by c) tree) + 1 ≡ 2 ^ (shape_of c tree).levels
tree_levels c (Xmss l) = ranges_count (params_of c).hp c.xmss
tree_levels c (Fors j) = ranges_count (params_of c).a c.fors

-- range r of a tree that is cut by levels
range_of : (height level r : ℕ) → level ≤ height → r < 2 ^ level
    → slice_get (ranges 0 (level_points height level) (2 ^ height)) r ≡ Some (r * 2 ^ (height - level), (r + 1) * 2 ^ (height - level))
range_of height level r low lt =
    let leaves : ℕ → ℕ × ℕ = λ i. (i * 2 ^ (height - level), (i + 1) * 2 ^ (height - level)) in
    let place : slice_get (range_with_len 0 (2 ^ level)) r ≡ Some r =
    slice_get_read (range_with_len 0 (2 ^ level)) (2 ^ level) r r (sym (length-range_with_len 0 (2 ^ level))) lt (let plus : r ≡ 0 + r = omega arith in plus ∙ sym (get_or-range_with_len 0 (2 ^ level) r r lt)) in
    ap (λ xs. slice_get xs r) (ranges-level_points height level low) ∙ slice_get-map leaves (range_with_len 0 (2 ^ level)) r ∙ ap (option_map leaves) place

tree_range_of : (c : Levels) (tree : JobTree) (r : ℕ) → r < 2 ^ (shape_of c tree).levels
    → slice_get (tree_ranges (cut_by c) tree) r ≡ Some (r * 2 ^ below (shape_of c tree), (r + 1) * 2 ^ below (shape_of c tree))
tree_range_of c (Xmss l) r lt = range_of (params_of c).hp c.xmss r c.xmss_high lt
tree_range_of c (Fors j) r lt = range_of (params_of c).a c.fors r c.fors_high lt

-- that range as a job
abbrev job_in : Levels → JobTree → ℕ → JobRange
job_in c tree r = record { tree = tree; lo = r * 2 ^ below (shape_of c tree); hi = (r + 1) * 2 ^ below (shape_of c tree) }

-- the job of a number, by tree and range
job_numbered : (c : Levels) (tree : JobTree) (n r : ℕ) → IsTreeOf (params_of c) tree → n ≡ first_job_of (cut_by c) tree → r < 2 ^ (shape_of c tree).levels
    → slice_get (signing_jobs (cut_by c)) (n + r) ≡ Some (job_in c tree r)
job_numbered c tree n r of first lt =
    let job : ℕ × ℕ → JobRange = λ range. record { tree = tree; lo = range.0; hi = range.1 } in
    let within : r < length (tree_jobs (cut_by c) tree) = omega (arith, length-tree_jobs (cut_by c) tree, tree_levels c tree) in
    slice_get-first (cut_by c) tree n r first of within ∙ slice_get-map job (tree_ranges (cut_by c) tree) r ∙ ap (option_map job) (tree_range_of c tree r lt)

-- a job of the XMSS trees, and one of the FORS trees
xmss_job : (c : Levels) (n : ℕ) → n < xmss_jobs c → slice_get (signing_jobs (cut_by c)) n ≡ Some (job_in c (Xmss (n / 2 ^ c.xmss)) (n % 2 ^ c.xmss))
xmss_job c n lt =
    let each = 2 ^ c.xmss in
    let whole : n ≡ n / each * each + n % each = omega arith in
    let first : n / each * each ≡ n / each * (length (level_points (params_of c).hp c.xmss) + 1) = ap (λ (k : ℕ). n / each * k) (sym (ranges_count (params_of c).hp c.xmss)) in
    ap (slice_get (signing_jobs (cut_by c))) whole
    ∙ job_numbered c (Xmss (n / each)) (n / each * each) (n % each) (tree_of_job n (params_of c).d c.xmss lt) first (mod-lt n (pow_pos c.xmss))

fors_job : (c : Levels) (m : ℕ) → m < fors_jobs c → slice_get (signing_jobs (cut_by c)) (xmss_jobs c + m) ≡ Some (job_in c (Fors (m / 2 ^ c.fors)) (m % 2 ^ c.fors))
fors_job c m lt =
    let each = 2 ^ c.fors in
    let p = params_of c in
    let whole : xmss_jobs c + m ≡ xmss_jobs c + m / each * each + m % each = omega arith in
    let first : xmss_jobs c + m / each * each ≡ p.d * (length (level_points p.hp c.xmss) + 1) + m / each * (length (level_points p.a c.fors) + 1) =
    ap (λ (k : ℕ). p.d * k + m / each * each) (sym (ranges_count p.hp c.xmss)) ∙ ap (λ (k : ℕ). p.d * (length (level_points p.hp c.xmss) + 1) + m / each * k) (sym (ranges_count p.a c.fors)) in
    ap (slice_get (signing_jobs (cut_by c))) whole
    ∙ job_numbered c (Fors (m / each)) (xmss_jobs c + m / each * each) (m % each) (tree_of_job m p.k c.fors lt) first (mod-lt m (pow_pos c.fors))

pub jobs-cut : (c : Levels) (n : ℕ) → n < jobs c → slice_get (signing_jobs (cut_by c)) n ≡ Some (job_at c n)
jobs-cut c n lt =
    elim (cases_lt n (xmss_jobs c)) [
      | inl low ↦
          let yes : nat_lt n (xmss_jobs c) ≡ true = search rules in
          rw yes (xmss_job c n low)
      | inr high ↦
          let no : nat_lt n (xmss_jobs c) ≡ false = search rules in
          let whole : n ≡ xmss_jobs c + (n - xmss_jobs c) = omega arith in
          rw no (ap (slice_get (signing_jobs (cut_by c))) whole ∙ fors_job c (n - xmss_jobs c) (omega arith))
    ]
