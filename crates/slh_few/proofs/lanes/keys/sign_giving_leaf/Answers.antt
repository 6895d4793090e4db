-- The two parts of the output are the WOTS+ signature and the path; the leaf is that of the tree whose leaves are known.
use Rattle.std.proofs.Common.{◌≡◌, ◌++◌, ap, sym, subst, ◌∙◌}
use Rattle.slh_params.specs.ParamSet.{params}
use Rattle.slh_tree.specs.Climb.{path}
use Rattle.slh_tree.specs.Tree.{MerkleTree}
use Rattle.slh_few.specs.Trees.{xmss_nodes_of}
use Rattle.slh_few.specs.Wots.{wots_sig}
use Rattle.slh_few.specs.Xmss.{AreKeysFrom, xmss_tree, xmss_sig}
use Rattle.slh_few.specs.declared.place.Place.{Place}
use Rattle.slh_few.proofs.lanes.keys.sign_giving_leaf.Goals as goal
use Rattle.slh_few.proofs.lanes.keys.sign_giving_leaf.Goals.{After-xmss_nodes_knowing-tree}

pub xmss_nodes_knowing-tree-requires : goal.xmss_nodes_knowing-tree-requires
xmss_nodes_knowing-tree-requires c =
    subst (λ (a : Place). AreKeysFrom (params c.args.signer.now.public.set) c.args.signer.now.sk_seed.now c.args.signer.now.public.pk_seed.now a c.sign_among_eight-group.result.items)
    (sym c.first_of_eight.ensures) (rw (c.lanes.ensures.set, c.lanes.ensures.pk_seed) at c.sign_among_eight-group.ensures.keys)

-- the tree is that of the place
tree_there : (c : After-xmss_nodes_knowing-tree)
    → xmss_nodes_of c.xmss_nodes_knowing-tree.result
    ≡ xmss_tree (params c.args.signer.now.public.set) c.args.signer.now.sk_seed.now c.args.signer.now.public.pk_seed.now c.args.at.layer c.args.at.tree
tree_there c =
    c.xmss_nodes_knowing-tree.ensures
    ∙ ap (λ (a : Place). xmss_tree (params c.args.signer.now.public.set) c.args.signer.now.sk_seed.now c.args.signer.now.public.pk_seed.now a.layer a.tree) c.first_of_eight.ensures

pub returns-clause-signature : goal.returns-clause-signature
unfolding xmss_sig
returns-clause-signature c =
    let p = params c.args.signer.now.public.set in
    let sk = c.args.signer.now.sk_seed.now in
    let pk = c.args.signer.now.public.pk_seed.now in
    let at = c.args.at in
    let there = (goal.at.returns-clause-signature c).After-xmss_nodes_knowing-tree in
    let b : c.path.new.out ≡ path (xmss_tree p sk pk at.layer at.tree) at.pair = rw (tree_there there) at c.path.ensures in
    ap (λ xs. xs ++ c.path.new.out) (rw (c.lanes.ensures.set, c.lanes.ensures.pk_seed) at c.sign_among_eight-group.ensures.signature) ∙ ap (λ ys. wots_sig p sk pk at c.args.msg.now.items ++ ys) b

pub returns-clause-leaf : goal.returns-clause-leaf
returns-clause-leaf c =
    let there = (goal.at.returns-clause-leaf c).After-xmss_nodes_knowing-tree in
    c.leaf.ensures ∙ ap (λ (t : MerkleTree). t.leaf c.args.at.pair) (tree_there there)
