-- The covers of the ranges, in their order, span the tree.
use Rattle.std.proofs.Common.{◌≡◌, ℕ, sym, ◌∙◌, ap, subst}
use Rattle.slh_params.specs.ParamSet.{params}
use Rattle.slh_tree.specs.Tree.{MerkleTree}
use Rattle.slh_tree.specs.Cover.{AreCovers}
use Rattle.slh_few.specs.Xmss.{xmss_tree}
use Rattle.slh_few.specs.Trees.{xmss_nodes_of}
use Rattle.slh_par.specs.TopTree.{top_tree}
use Rattle.slh_par.proofs.TopCovers.{top_covers}
use Rattle.slh_par.proofs.top_tree.gathered_top.Goals as goal

pub gather-requires-clause-covers : goal.gather-requires-clause-covers
gather-requires-clause-covers c =
    let s = c.args.signer.now in
    let Spanned : MerkleTree → Type 0 = λ t. AreCovers t 0 c.args.covers.now in
    let made : xmss_nodes_of c.xmss_nodes.result ≡ top_tree s = c.xmss_nodes.ensures ∙ ap (λ (l : ℕ). xmss_tree (params s.public.set) s.sk_seed.now s.public.pk_seed.now l 0) c.top_layer.ensures in
    subst Spanned (sym made) (top_covers s c.args.cutting.now c.args.covers.now c.requires.set c.xmss_ranges-ranges.ensures.end_to_end c.requires.count c.requires.each)
