-- A signature from the values that the answers of all jobs give for its trees: ours, by FIPS 205, Algorithms 12 and 16.
use Rattle.std.specs.Prelude.{◌≡◌, ℕ, zero, suc, ◌<◌, List, ◌++◌}
use Rattle.slh_params.specs.ParamSet.{params}
use Rattle.slh_tree.specs.Tree.{root as root_of}
use Rattle.slh_tree.specs.Climb.{path as path_of}
use Rattle.slh_few.specs.Fors.{compressed_roots}
use Rattle.slh_few.specs.KeyCheckpoints.{wots_sig_from}
use Rattle.slh_few.specs.Chunks.{end_to_end}
use Rattle.slh_subtrees.specs.Jobs.{IsTreeOf}
use Rattle.slh_subtrees.specs.Trees.{TreeSource, place_of, tree_of, leaf_of, secret_of, checkpoints_of}
use Rattle.slh_subtrees.specs.declared.range.JobTree.{JobTree}
use Rattle.slh_subtrees.specs.declared.range.JobTree.TheVariants.{Xmss, Fors}

-- The values of the answers: for each tree the root and the path of its signing leaf. Also for each FORS tree the
-- secret value of that leaf, and for each layer the checkpoints of the key that signs there.
pub record TreeAnswers : Type 0 where
  pub root : JobTree → List ℕ
  pub path : JobTree → List ℕ
  pub secret : ℕ → List ℕ
  pub chains : ℕ → List ℕ

-- the part of FORS tree j in the signature: the secret value, then the path (Algorithm 16)
abbrev pub fors_part_by : TreeAnswers → ℕ → List ℕ
fors_part_by a j = a.secret j ++ a.path (Fors j)

-- the value that layer l signs: at layer 0 the FORS public key, above it the root of the tree below; at d the root of
-- the top tree
abbrev pub signed_by : TreeSource → TreeAnswers → ℕ → List ℕ
signed_by s a zero = compressed_roots (params s.set) s.pk_seed s.idx_tree s.idx_leaf (λ j. a.root (Fors j))
signed_by s a (suc l) = a.root (Xmss l)

-- the part of a layer, if its key signs m: the WOTS+ signature, from the key's checkpoints, then the path
abbrev pub layer_part_by : TreeSource → TreeAnswers → ℕ → List ℕ → List ℕ
layer_part_by s a l m = wots_sig_from (params s.set) s.pk_seed (place_of s l) (a.chains l) m ++ a.path (Xmss l)

-- the FORS signature, and the hypertree signature of the FORS public key (Algorithm 12)
abbrev pub sig_fors_by : TreeSource → TreeAnswers → List ℕ
sig_fors_by s a = end_to_end (fors_part_by a) (params s.set).k

abbrev pub sig_ht_by : TreeSource → TreeAnswers → List ℕ
sig_ht_by s a = end_to_end (λ l. layer_part_by s a l (signed_by s a l)) (params s.set).d

-- the answers are those of the trees themselves
pub record AreRight (s : TreeSource) (a : TreeAnswers) : Type 0 where
  pub roots : (tree : JobTree) → IsTreeOf (params s.set) tree → a.root tree ≡ root_of (tree_of s tree)
  pub paths : (tree : JobTree) → IsTreeOf (params s.set) tree → a.path tree ≡ path_of (tree_of s tree) (leaf_of s tree)
  pub secrets : (j : ℕ) → j < (params s.set).k → a.secret j ≡ secret_of s j
  pub checkpoints : (l : ℕ) → l < (params s.set).d → a.chains l ≡ checkpoints_of s l

-- these answers
abbrev pub answers_of : TreeSource → TreeAnswers
answers_of s = record {
  root = λ tree. root_of (tree_of s tree);
  path = λ tree. path_of (tree_of s tree) (leaf_of s tree);
  secret = secret_of s;
  chains = checkpoints_of s;
}
