-- The tree over the place at a layer is the layer's.
use Rattle.std.proofs.Common.{ℕ, subst, ◌∙◌}
use Rattle.slh_params.specs.ParamSet.{params}
use Rattle.slh_few.specs.Hypertree.{layer_place}
use Rattle.slh_few.specs.Xmss.{xmss_tree}
use Rattle.slh_few.specs.declared.place.Place.{Place}
use Rattle.slh_few.proofs.Layers.{layer_place-layer}
use Rattle.slh_subtrees.specs.Gathered.{IsHashed}
use Rattle.slh_subtrees.proofs.Hashed.{hashed_range}
use Rattle.slh_subtrees.proofs.signing_trees.SigningTrees.hashed_with_checkpoints.Goals as goal

pub returns-clause-hashed : goal.returns-clause-hashed
returns-clause-hashed c =
    let t = c.args.self.now in
    let p = params t.signer.now.public.set in
    let sk = t.signer.now.sk_seed.now in
    let pk = t.signer.now.public.pk_seed.now in
    let at : Place = layer_place p t.idx_tree t.idx_leaf c.args.layer in
    let Over : Place → Type 0 = λ x. IsHashed (xmss_tree p sk pk x.layer x.tree) x.pair c.xmss_range_with_checkpoints-cover.result c.xmss_range_with_checkpoints-cover.new.rec in
    let Of : ℕ → Type 0 = λ l. IsHashed (xmss_tree p sk pk l at.tree) at.pair c.xmss_range_with_checkpoints-cover.result c.xmss_range_with_checkpoints-cover.new.rec in
    let own : Over c.layer_place-at.result =
    hashed_range _ _ c.args.lo c.args.hi _ _ _ c.xmss_range_with_checkpoints-cover.ensures.lo c.xmss_range_with_checkpoints-cover.ensures.hi c.xmss_range_with_checkpoints-cover.ensures.cover
    c.xmss_range_with_checkpoints-cover.ensures.gained (c.for_leaf-path.ensures.height ∙ c.hp.ensures) c.for_leaf-path.ensures.leaf c.for_leaf-path.ensures.empty in
    subst Of {y = c.args.layer} (layer_place-layer p t.idx_tree t.idx_leaf c.args.layer) (subst Over {y = at} c.layer_place-at.ensures.place own)
