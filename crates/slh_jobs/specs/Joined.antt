-- The results of the answers of all jobs, for any bytes: ours.
use Rattle.std.specs.Prelude.{◌≡◌, ℕ, ◌+◌, ◌*◌, ◌/◌, ◌^◌, ◌<◌, List, ◌++◌, drop}
use Rattle.slh_params.specs.ParamSet.{params}
use Rattle.slh_tree.specs.Tree.{root as root_of}
use Rattle.slh_few.specs.Fors.{fors_root}
use Rattle.slh_few.specs.Xmss.{xmss_pk_from_sig}
use Rattle.slh_core.specs.Keys.{Key, public_of, pk_root}
use Rattle.slh_subtrees.specs.Assembled.{TreeAnswers, fors_part_by, signed_by, layer_part_by, sig_fors_by, sig_ht_by}
use Rattle.slh_subtrees.specs.Trees.{TreeSource, place_of, tree_of, leaf_of}
use Rattle.slh_subtrees.specs.declared.range.JobTree.{JobTree}
use Rattle.slh_subtrees.specs.declared.range.JobTree.TheVariants.{Xmss, Fors}
use Rattle.slh_jobs.specs.Ranges.{below, answer_len, node_given, tag_given, rest_given, upper_given, auth_given}
use Rattle.slh_jobs.specs.Jobs.{params_of, xmss_shape, fors_shape, shape_of, xmss_jobs, fors_jobs, first_job, first_of_kind, r_in, source, tag_of}
use Rattle.slh_jobs.specs.declared.levels.Levels.{Levels}
use Rattle.slh_jobs.specs.declared.shape.Shape.{Shape}

-- the answers of the FORS trees
abbrev pub fors_answers : Levels → List ℕ → List ℕ
fors_answers c bytes = drop (xmss_jobs c * answer_len (xmss_shape c)) bytes

-- those of the trees of a tree's kind
abbrev pub answers_of_kind : Levels → List ℕ → JobTree → List ℕ
answers_of_kind c bytes (Xmss l) = bytes
answers_of_kind c bytes (Fors j) = fors_answers c bytes

-- the part after the path, in the answer of the range of a tree's signing leaf
abbrev pub rest_in : Levels → TreeSource → List ℕ → JobTree → List ℕ
rest_in c s bytes tree =
    rest_given (shape_of c tree) (answers_of_kind c bytes tree) (first_of_kind c tree + leaf_of s tree / 2 ^ below (shape_of c tree))

-- the values that the answers give for the trees
abbrev pub answers_given : Levels → TreeSource → List ℕ → TreeAnswers
answers_given c s bytes = record {
  root = λ tree. root_of (upper_given (tree_of s tree) (shape_of c tree) (answers_of_kind c bytes tree) (first_of_kind c tree));
  path = λ tree. auth_given (tree_of s tree) (shape_of c tree) (answers_of_kind c bytes tree) (first_of_kind c tree) (leaf_of s tree);
  secret = λ j. rest_in c s bytes (Fors j);
  chains = λ l. rest_in c s bytes (Xmss l);
}

-- the signature
abbrev pub signature_given : Levels → Key → List ℕ → List ℕ → List ℕ
signature_given c sk start bytes =
    let s = source c sk start in
    let a = answers_given c s bytes in
    r_in (params_of c) start ++ (sig_fors_by s a ++ sig_ht_by s a)

-- the nodes of the first answers have the tags of the jobs from `first` on
abbrev pub TagsFit : Levels → Key → List ℕ → Shape → List ℕ → ℕ → ℕ → Type 0
TagsFit c sk start shape bytes first count =
    (n : ℕ) → n < count → tag_of c sk start (first + n) (node_given shape bytes n) ≡ tag_given shape bytes n

-- the nodes of a tree's ranges have the tags of their jobs
abbrev pub NodesFit : Levels → Key → List ℕ → List ℕ → JobTree → Type 0
NodesFit c sk start bytes tree =
    let shape = shape_of c tree in
    let own = answers_of_kind c bytes tree in
    let first = first_of_kind c tree in
    (r : ℕ) → r < 2 ^ shape.levels → tag_of c sk start (first_job c tree + r) (node_given shape own (first + r)) ≡ tag_given shape own (first + r)

-- the root of FORS tree j is that which its secret and its path give
abbrev pub ForsFits : TreeSource → TreeAnswers → ℕ → Type 0
ForsFits s a j = fors_root (params s.set) s.pk_seed s.idx_tree s.idx_leaf s.md j (fors_part_by a j) ≡ a.root (Fors j)

-- the root of the tree of layer l is that which its key's signature and its path give
abbrev pub LayerFits : TreeSource → TreeAnswers → ℕ → Type 0
LayerFits s a l =
    xmss_pk_from_sig (params s.set) s.pk_seed (place_of s l) (signed_by s a l) (layer_part_by s a l (signed_by s a l)) ≡ a.root (Xmss l)

-- The answers fit together: each node has its tag, in each tree the root that the ranges give is the root that the
-- signing leaf's key and path give, and that of the top tree is PK.root.
pub record AreFitting (c : Levels) (s : TreeSource) (sk : Key) (start bytes : List ℕ) : Type 0 where
  pub xmss_tags : TagsFit c sk start (xmss_shape c) bytes 0 (xmss_jobs c)
  pub fors_tags : TagsFit c sk start (fors_shape c) (fors_answers c bytes) (xmss_jobs c) (fors_jobs c)
  pub fors : (j : ℕ) → j < (params s.set).k → ForsFits s (answers_given c s bytes) j
  pub layers : (l : ℕ) → l < (params s.set).d → LayerFits s (answers_given c s bytes) l
  pub top : signed_by s (answers_given c s bytes) (params s.set).d ≡ pk_root (public_of sk)

abbrev pub FitTogether : Levels → Key → List ℕ → List ℕ → Type 0
FitTogether c sk start bytes = AreFitting c (source c sk start) sk start bytes
