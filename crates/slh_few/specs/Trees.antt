-- The trees that the types of this crate are. Their nodes have n bytes: ours.
use Rattle.std.proofs.Common.{◌≡◌, ℕ, ◌≤◌, List, [], length}
use Rattle.slh_params.specs.Params.{Params}
use Rattle.slh_params.specs.ParamSet.{params}
use Rattle.slh_params.proofs.Bounds.{n_high}
use Rattle.slh_hash.proofs.Lengths.{length-F}
use Rattle.slh_hash.proofs.Lengths.{length-T}
use Rattle.slh_tree.specs.Tree.{MerkleTree, Lawful}
use Rattle.slh_few.specs.Wots.{wots_pk}
use Rattle.slh_few.specs.Xmss.{xmss_tree}
use Rattle.slh_few.specs.Fors.{fors_tree}
use Rattle.slh_few.specs.declared.fors_tree.ForsJoins.{ForsJoins}
use Rattle.slh_few.specs.declared.fors_tree.ForsNodes.{ForsNodes}
use Rattle.slh_few.specs.declared.fors_tree.ForsTree.{ForsTree}
use Rattle.slh_params.specs.declared.param_set.ParamSet.{ParamSet}
use Rattle.slh_few.specs.declared.place.Place.{Place}
use Rattle.slh_few.specs.declared.xmss_tree.XmssJoins.{XmssJoins}
use Rattle.slh_few.specs.declared.xmss_tree.XmssNodes.{XmssNodes}
use Rattle.slh_few.specs.declared.xmss_tree.XmssTree.{XmssTree}

-- the tree that an `XmssTree` is
unfoldable pub xmss_tree_of : XmssTree → MerkleTree
xmss_tree_of t = xmss_tree (params t.seeds.set) t.seeds.sk_seed.now t.seeds.pk_seed.now t.layer t.tree

-- the tree that a `ForsTree` is
unfoldable pub fors_tree_of : ForsTree → MerkleTree
fors_tree_of t = fors_tree (params t.seeds.set) t.seeds.sk_seed.now t.seeds.pk_seed.now t.at.idx_tree t.at.idx_leaf t.at.tree_no

-- the trees that an `XmssNodes` and a `ForsNodes` are
unfoldable pub xmss_nodes_of : XmssNodes → MerkleTree
xmss_nodes_of t = xmss_tree (params t.signer.now.public.set) t.signer.now.sk_seed.now t.signer.now.public.pk_seed.now t.layer t.tree

unfoldable pub fors_nodes_of : ForsNodes → MerkleTree
fors_nodes_of t =
    fors_tree (params t.signer.now.public.set) t.signer.now.sk_seed.now t.signer.now.public.pk_seed.now
    t.at.idx_tree t.at.idx_leaf t.at.tree_no

-- the trees that an `XmssJoins` and a `ForsJoins` are above their leaves: no leaf is made, so that no SK.seed is needed
unfoldable pub xmss_joins_of : XmssJoins → MerkleTree
xmss_joins_of t = xmss_tree (params t.context.now.set) [] t.context.now.pk_seed.now t.layer t.tree

unfoldable pub fors_joins_of : ForsJoins → MerkleTree
fors_joins_of t = fors_tree (params t.context.now.set) [] t.context.now.pk_seed.now t.at.idx_tree t.at.idx_leaf t.at.tree_no

-- a WOTS+ public key has n bytes
length-wots_pk : (p : Params) (sk_seed pk_seed : List ℕ) (at : Place) → p.n ≤ 32 → length (wots_pk p sk_seed pk_seed at) ≡ p.n
unfolding wots_pk
length-wots_pk p sk_seed pk_seed at h = length-T p pk_seed _ _ h

-- all nodes of the two trees have n bytes
pub xmss_tree-lawful : (s : ParamSet) (sk_seed pk_seed : List ℕ) (l t : ℕ) → Lawful (xmss_tree (params s) sk_seed pk_seed l t)
xmss_tree-lawful s sk_seed pk_seed l t = record {
  leaf_width = λ i. length-wots_pk (params s) sk_seed pk_seed _ (n_high s);
  join_width = λ z i x y. length-T (params s) pk_seed _ _ (n_high s);
}

pub fors_tree-lawful : (s : ParamSet) (sk_seed pk_seed : List ℕ) (t i j : ℕ) → Lawful (fors_tree (params s) sk_seed pk_seed t i j)
fors_tree-lawful s sk_seed pk_seed t i j = record {
  leaf_width = λ v. length-F (params s) pk_seed _ _ (n_high s);
  join_width = λ z v x y. length-T (params s) pk_seed _ _ (n_high s);
}

-- so have those of each type
pub xmss-lawful : (t : XmssTree) → Lawful (xmss_tree_of t)
unfolding xmss_tree_of
xmss-lawful t = xmss_tree-lawful t.seeds.set t.seeds.sk_seed.now t.seeds.pk_seed.now t.layer t.tree

pub fors-lawful : (t : ForsTree) → Lawful (fors_tree_of t)
unfolding fors_tree_of
fors-lawful t = fors_tree-lawful t.seeds.set t.seeds.sk_seed.now t.seeds.pk_seed.now t.at.idx_tree t.at.idx_leaf t.at.tree_no

pub xmss_nodes-lawful : (t : XmssNodes) → Lawful (xmss_nodes_of t)
unfolding xmss_nodes_of
xmss_nodes-lawful t = xmss_tree-lawful t.signer.now.public.set _ _ _ _

pub fors_nodes-lawful : (t : ForsNodes) → Lawful (fors_nodes_of t)
unfolding fors_nodes_of
fors_nodes-lawful t = fors_tree-lawful t.signer.now.public.set _ _ _ _ _

pub xmss_joins-lawful : (t : XmssJoins) → Lawful (xmss_joins_of t)
unfolding xmss_joins_of
xmss_joins-lawful t = xmss_tree-lawful t.context.now.set _ _ _ _

pub fors_joins-lawful : (t : ForsJoins) → Lawful (fors_joins_of t)
unfolding fors_joins_of
fors_joins-lawful t = fors_tree-lawful t.context.now.set _ _ _ _ _
