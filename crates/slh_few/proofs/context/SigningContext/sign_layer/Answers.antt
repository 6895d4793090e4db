-- From the leaf that signs and its path the climb gives the tree's root, and so does the signature.
use Rattle.std.proofs.Common.{◌≡◌, ◌++◌, length, take, drop, ap, sym, ◌∙◌, arith}
use Rattle.std.proofs.lemmas.Slice.{take-put_mid}
use Rattle.slh_params.specs.ParamSet.{params}
use Rattle.slh_tree.specs.Climb.{path}
use Rattle.slh_tree.specs.Tree.{MerkleTree, root}
use Rattle.slh_few.specs.Trees.{xmss_tree-lawful}
use Rattle.slh_few.specs.Xmss.{xmss_tree, xmss_sig_len, wots_sig_len}
use Rattle.slh_few.proofs.XmssLaw.{length-xmss_sig, xmss_sig-path, xmss_pk_from_sig-xmss_sig}
use Rattle.slh_few.proofs.context.SigningContext.sign_layer.Goals as goal

pub climb-requires-clause-leaf_width : goal.climb-requires-clause-leaf_width
climb-requires-clause-leaf_width c =
    let s = c.args.self.now.public.set in
    let at = c.args.at in
    ap length c.sign_giving_leaf-leaf.ensures.leaf ∙ (xmss_tree-lawful s c.args.self.now.sk_seed.now c.args.self.now.public.pk_seed.now at.layer at.tree).leaf_width at.pair
    ∙ ap (λ (t : MerkleTree). t.width) (sym c.xmss_nodes-tree.ensures)

pub returns-clause-written : goal.returns-clause-written
returns-clause-written c =
    let s = c.args.self.now.public.set in
    let sig = c.sign_giving_leaf-leaf.ensures.signature in
    let size : length c.sign_giving_leaf-leaf.new.out ≡ xmss_sig_len (params s) = ap length sig ∙ length-xmss_sig s _ _ c.args.at c.args.msg.now.items in
    take-put_mid c.args.start _ c.args.out.now c.sign_giving_leaf-leaf.new.out _ (omega (arith, size)) (omega (arith, c.requires.out))
    ∙ ap (λ xs. take c.args.start c.args.out.now ++ xs) sig

pub returns-clause-root : goal.returns-clause-root
returns-clause-root c =
    let s = c.args.self.now.public.set in
    let sk = c.args.self.now.sk_seed.now in
    let pk = c.args.self.now.public.pk_seed.now in
    let at = c.args.at in
    let m = c.args.msg.now.items in
    let leaf = c.sign_giving_leaf-leaf.ensures.leaf ∙ ap (λ (t : MerkleTree). t.leaf at.pair) (sym c.xmss_nodes-tree.ensures) in
    let auth : c.split_at.result.1.now ≡ path (xmss_tree (params s) sk pk at.layer at.tree) at.pair =
    rw (c.len.ensures, c.n.ensures) at c.split_at.ensures.back ∙ ap (drop (wots_sig_len (params s))) c.sign_giving_leaf-leaf.ensures.signature ∙ xmss_sig-path s sk pk at m in
    c.climb.ensures.authentic leaf (auth ∙ ap (λ (t : MerkleTree). path t at.pair) (sym c.xmss_nodes-tree.ensures))
    ∙ ap root c.xmss_nodes-tree.ensures ∙ sym (xmss_pk_from_sig-xmss_sig s sk pk at m c.requires.pair)
