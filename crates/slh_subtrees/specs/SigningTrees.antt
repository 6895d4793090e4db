-- The view of a `SigningTrees`: ours.
use Rattle.std.specs.Prelude.{ℕ, Bool, ◌&&◌, nat_le, nat_lt, List}
use Rattle.slh_params.specs.declared.param_set.ParamSet.{ParamSet}
use Rattle.slh_tree.specs.Tree.{MerkleTree}
use Rattle.slh_subtrees.specs.Trees.{TreeSource, tree_of, leaf_of, checkpoints_of}
use Rattle.slh_subtrees.specs.declared.range.JobTree.{JobTree}
use Rattle.slh_subtrees.specs.declared.range.JobTree.TheVariants.{Xmss}
use Rattle.slh_subtrees.specs.declared.signing_trees.SigningTrees.{SigningTrees}

-- the parameter set
abbrev pub set_in : SigningTrees → ParamSet
set_in t = t.signer.now.public.set

-- the inputs of the trees
abbrev pub source_of : SigningTrees → TreeSource
source_of t = record {
  set = set_in t;
  sk_seed = t.signer.now.sk_seed.now;
  pk_seed = t.signer.now.public.pk_seed.now;
  idx_tree = t.idx_tree;
  idx_leaf = t.idx_leaf;
  md = t.md.now;
}

-- the tree, its leaf whose path is in the signature, and the checkpoints of the key that signs on layer l
abbrev pub tree_in : SigningTrees → JobTree → MerkleTree
tree_in t tree = tree_of (source_of t) tree

abbrev pub leaf_in : SigningTrees → JobTree → ℕ
leaf_in t tree = leaf_of (source_of t) tree

abbrev pub checkpoints_in : SigningTrees → ℕ → List ℕ
checkpoints_in t l = checkpoints_of (source_of t) l

-- whether the leaf of that key is one of those from lo to hi, hi left out
abbrev pub signs_in : SigningTrees → ℕ → ℕ → ℕ → Bool
signs_in t l lo hi = nat_le lo (leaf_in t (Xmss l)) && nat_lt (leaf_in t (Xmss l)) hi
