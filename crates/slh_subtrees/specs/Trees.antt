-- The trees of one signature (FIPS 205, sections 7 and 8): the XMSS tree of each layer over which its place there
-- stands, and the FORS trees of its key at layer 0.
use Rattle.std.specs.Prelude.{ℕ, ◌+◌, ◌*◌, ◌^◌, List}
use Rattle.slh_params.specs.ParamSet.{params}
use Rattle.slh_params.specs.declared.param_set.ParamSet.{ParamSet}
use Rattle.slh_tree.specs.Tree.{MerkleTree}
use Rattle.slh_few.specs.Xmss.{xmss_tree}
use Rattle.slh_few.specs.Hypertree.{layer_place}
use Rattle.slh_few.specs.KeyCheckpoints.{key_checkpoints}
use Rattle.slh_few.specs.Fors.{fors_tree, fors_index, fors_secret}
use Rattle.slh_few.specs.declared.place.Place.{Place}
use Rattle.slh_subtrees.specs.declared.range.JobTree.{JobTree}
use Rattle.slh_subtrees.specs.declared.range.JobTree.TheVariants.{Xmss, Fors}

-- Their inputs: SK.seed and PK.seed, the tree and the leaf of layer 0 that sign, and the part of the digest that FORS
-- signs.
pub record TreeSource : Type 0 where
  pub set : ParamSet
  pub sk_seed : List ℕ
  pub pk_seed : List ℕ
  pub idx_tree : ℕ
  pub idx_leaf : ℕ
  pub md : List ℕ

-- the place whose key signs on layer l (Algorithm 12, lines 7 and 8)
abbrev pub place_of : TreeSource → ℕ → Place
place_of s l = layer_place (params s.set) s.idx_tree s.idx_leaf l

-- the tree
abbrev pub tree_of : TreeSource → JobTree → MerkleTree
tree_of s (Xmss layer) = xmss_tree (params s.set) s.sk_seed s.pk_seed layer (place_of s layer).tree
tree_of s (Fors number) = fors_tree (params s.set) s.sk_seed s.pk_seed s.idx_tree s.idx_leaf number

-- its leaf whose path is in the signature (for FORS: Algorithm 16, line 2)
abbrev pub leaf_of : TreeSource → JobTree → ℕ
leaf_of s (Xmss layer) = (place_of s layer).pair
leaf_of s (Fors number) = fors_index (params s.set) s.md number

-- the secret value of that leaf of FORS tree j
abbrev pub secret_of : TreeSource → ℕ → List ℕ
secret_of s j =
    fors_secret (params s.set) s.sk_seed s.pk_seed s.idx_tree s.idx_leaf (j * 2 ^ (params s.set).a + fors_index (params s.set) s.md j)

-- the checkpoints of the key that signs on layer l
abbrev pub checkpoints_of : TreeSource → ℕ → List ℕ
checkpoints_of s l = key_checkpoints (params s.set) s.sk_seed s.pk_seed (place_of s l)
