-- The ranges of one tree among those of all trees.
use Rattle.std.proofs.Common.{◌≡◌, ℕ, suc, ◌+◌, ◌-◌, ◌^◌, ◌<◌, ◌≤◌, List, [], ◌∷◌, Some, length, take, drop, get_or, arith, sym, ◌∙◌, ap, subst, refl}
use Rattle.std.specs.List.{slice_get}
use Rattle.std.specs.Option.{option_map}
use Rattle.std.proofs.lemmas.List.{get_or-take, get_or-drop, length-take-le, length-drop, length-map}
use Rattle.std.proofs.lemmas.Option.{slice_get-get_or, slice_get_within, slice_get-map}
use Rattle.slh_params.specs.ParamSet.{params}
use Rattle.slh_tree.specs.Tree.{MerkleTree}
use Rattle.slh_tree.specs.Cover.{IsCover, AreCovers}
use Rattle.slh_tree.specs.declared.cover.Cover.{Cover}
use Rattle.slh_tree.specs.Record.{KnownPath}
use Rattle.slh_subtrees.specs.Points.{EndToEnd}
use Rattle.slh_subtrees.specs.CutTrees.{CutTrees}
use Rattle.slh_subtrees.specs.Jobs.{height_of, tree_ranges, tree_jobs, signing_jobs}
use Rattle.slh_subtrees.specs.declared.range.JobTree.{JobTree}
use Rattle.slh_subtrees.specs.Gathered.{AreHashed}
use Rattle.slh_subtrees.specs.SigningTrees.{source_of, tree_in, leaf_in}
use Rattle.slh_subtrees.proofs.Numbered.{in_tree}
use Rattle.slh_subtrees.proofs.TreeLaw.{tree-height}
use Rattle.slh_par.specs.JobAnswers.{IsAnswer, AreRangeAnswers}
use Rattle.slh_subtrees.specs.declared.signing_trees.SigningTrees.{SigningTrees}

-- the cover of this range
pub record IsCoverOf (t : MerkleTree) (range : ℕ × ℕ) (c : Cover) : Type 0 where
  pub lo : c.lo ≡ range.0
  pub hi : c.hi ≡ range.1
  pub cover : IsCover t c.lo c.hi c.nodes.items

-- covers of ranges that, put end to end, reach the last leaf
pub spans_tree :
    (t : MerkleTree) (lo hi : ℕ) (rs : List (ℕ × ℕ)) (cs : List Cover) →
    EndToEnd lo hi rs →
    hi ≡ 2 ^ t.height →
    length cs ≡ length rs →
    ((k : ℕ) (r : ℕ × ℕ) (c : Cover) → slice_get rs k ≡ Some r → IsCoverOf t r (get_or cs k c)) →
    AreCovers t lo cs
spans_tree t lo hi [] [] ends whole count each = ends ∙ whole
spans_tree t lo hi [] (c ∷ cs) ends whole count each = absurd (omega arith)
spans_tree t lo hi (r ∷ rs) [] ends whole count each = absurd (omega arith)
spans_tree t lo hi (r ∷ rs) (c ∷ cs) ends whole count each =
    let here : IsCoverOf t r c = each 0 r c refl in
    let From : ℕ → Type 0 = λ x. AreCovers t x cs in
    let rest : AreCovers t r.1 cs = spans_tree t r.1 hi rs cs ends.2 whole (omega arith) (λ k q d read. each (suc k) q d read) in
    (here.lo ∙ ends.0, here.cover, subst From (sym here.hi) rest)

-- a part of a list, known by place, ends within the list
pub part_within :
    {X : Type 0} (xs part : List X) (first : ℕ) (d : X) →
    ((r : ℕ) → r < length part → slice_get xs (first + r) ≡ slice_get part r) →
    0 < length part →
    first + length part ≤ length xs
part_within {X} xs part first d at some =
    let last = length part - 1 in
    let below : last < length part = omega arith in
    let read : slice_get xs (first + last) ≡ Some (get_or part last d) = at last below ∙ slice_get-get_or part last d below in
    omega (arith, slice_get_within xs (first + last) (get_or part last d) read)

-- a part of a list: its elements, and how many
read_part : {X : Type 0} (xs : List X) (first count k : ℕ) (d : X) → k < count → get_or (take count (drop first xs)) k d ≡ get_or xs (first + k) d
read_part xs first count k d below = get_or-take count (drop first xs) k d below ∙ get_or-drop first xs k d

length_part : {X : Type 0} (xs : List X) (first count : ℕ) → first + count ≤ length xs → length (take count (drop first xs)) ≡ count
length_part xs first count fits = length-take-le count (drop first xs) (omega (arith, length-drop first xs))

-- a record that knows nothing
no_path : KnownPath
no_path = record { height = 0; leaf = 0; nodes = [] }

-- the job of a range of the tree
pub job_at : (cut : CutTrees) (tree : JobTree) (k : ℕ) (r : ℕ × ℕ) → slice_get (tree_ranges cut tree) k ≡ Some r → slice_get (tree_jobs cut tree) k ≡ Some (in_tree tree r)
job_at cut tree k r read = slice_get-map (in_tree tree) (tree_ranges cut tree) k ∙ ap (option_map (in_tree tree)) read

-- the jobs of one tree among all jobs, from the job `first` on
pub record AreJobsOf (cut : CutTrees) (tree : JobTree) (first count : ℕ) : Type 0 where
  pub at : (r : ℕ) → r < length (tree_jobs cut tree) → slice_get (signing_jobs cut) (first + r) ≡ slice_get (tree_jobs cut tree) r
  pub all : count ≡ length (tree_jobs cut tree)
  pub some : 0 < count
  pub ends : EndToEnd 0 (2 ^ height_of (params cut.set) tree) (tree_ranges cut tree)

module _ (s : SigningTrees) (cut : CutTrees) (tree : JobTree) (cs : List Cover) (rs : List KnownPath) (first count : ℕ) (same_set : cut.set ≡ s.signer.now.public.set) (answers : AreRangeAnswers s cut cs rs) (jobs : AreJobsOf cut tree first count) where
  -- they are some of all jobs
  pub jobs_fit : first + count ≤ length (signing_jobs cut)
  jobs_fit = omega (arith, part_within (signing_jobs cut) (tree_jobs cut tree) first (in_tree tree (0, 0)) jobs.at (omega (arith, jobs.all, jobs.some)), jobs.all)

  -- what the job of the range k gave
  answer_at : (k : ℕ) (r : ℕ × ℕ) (c : Cover) (p : KnownPath) → slice_get (tree_ranges cut tree) k ≡ Some r → IsAnswer s (in_tree tree r) (get_or (take count (drop first cs)) k c) (get_or (take count (drop first rs)) k p)
  answer_at k r c p read =
      let within : k < length (tree_jobs cut tree) = omega (arith, slice_get_within (tree_ranges cut tree) k r read, length-map (tree_ranges cut tree) (in_tree tree)) in
      let below : k < count = omega (arith, jobs.all) in
      let given = answers.each (first + k) (in_tree tree r) c p (jobs.at k within ∙ job_at cut tree k r read) in
      let Of : Cover → Type 0 = λ x. IsAnswer s (in_tree tree r) x (get_or rs (first + k) p) in
      subst (IsAnswer s (in_tree tree r) (get_or (take count (drop first cs)) k c)) (sym (read_part rs first count k p below))
      (subst Of (sym (read_part cs first count k c below)) given)

  length_covers : length (take count (drop first cs)) ≡ count
  length_covers = length_part cs first count (omega (arith, jobs_fit, answers.covers))

  length_records : length (take count (drop first rs)) ≡ count
  length_records = length_part rs first count (omega (arith, jobs_fit, answers.records))

  -- the tree's own part of the covers and records
  pub tree_hashed : AreHashed (tree_in s tree) (leaf_in s tree) (take count (drop first cs)) (take count (drop first rs))
  tree_hashed =
      let t = tree_in s tree in
      let ranges = tree_ranges cut tree in
      let ranges_count : length ranges ≡ count = sym (length-map ranges (in_tree tree)) ∙ sym jobs.all in
      let whole : 2 ^ height_of (params cut.set) tree ≡ 2 ^ t.height = ap (λ x. 2 ^ height_of (params x) tree) same_set ∙ ap (λ (h : ℕ). 2 ^ h) (tree-height (source_of s) tree) in
      record {
        span = spans_tree t 0 (2 ^ height_of (params cut.set) tree) ranges (take count (drop first cs)) jobs.ends whole (length_covers ∙ sym ranges_count)
            (λ k r c read. let own = answer_at k r c no_path read in record { lo = own.lo; hi = own.hi; cover = own.hashed.cover });
        count = length_records ∙ sym length_covers;
        each = λ k c p below.
            let within : k < length ranges = omega (arith, length_covers) in
            let own = answer_at k (get_or ranges k (0, 0)) c p (slice_get-get_or ranges k (0, 0) within) in
            own.hashed;
      }
