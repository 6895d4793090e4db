-- After each layer the lanes hold the roots that the signatures give so far.
use Rattle.std.proofs.Common.{◌≡◌, ◌+◌, slice_index_or, ap, refl, ◌∙◌, arith}
use Rattle.slh_params.specs.ParamSet.{params}
use Rattle.slh_lanes.specs.Lanes.{value_at}
use Rattle.slh_few.specs.HtSignatures.{pk_seed_of}
use Rattle.slh_few.specs.Hypertree.{place_above}
use Rattle.slh_few.specs.Xmss.{place}
use Rattle.slh_few.specs.declared.place.Place.{Place}
use Rattle.slh_few.proofs.HtLaw.{root_below-more}
use Rattle.slh_few.proofs.Layers.{layer_place-more}
use Rattle.slh_few.proofs.lanes.hypertrees.put_top_roots.Goals as goal

pub loop-layer-preserved : goal.loop-layer-preserved
loop-layer-preserved c =
    let p = params c.args.set in
    let l = c.loop-layer.layer in
    let old = c.loop-layer.invariant in
    record {
      places = λ j x at lane.
          let y = slice_index_or c.args.signed.now j x in
          c.places_above-places.ensures j at lane ∙ ap (λ (a : Place). place_above p a (l + 1)) (old.places j x at lane)
          ∙ layer_place-more p y.idx_tree y.idx_leaf l;
      roots = λ j x lane.
          let y = slice_index_or c.args.signed.now j x in
          let any : Place = place 0 0 0 in
          c.if-not-put_layer_roots.ensures refl j x any lane
          ∙ root_below-more p (pk_seed_of y) y.msg.now.items y.idx_tree y.idx_leaf y.sig.now l (slice_index_or c.loop-layer.places j any)
          (value_at c.loop-layer.nodes j p.n) (old.places j x any lane) (old.roots j x lane);
    }

pub returns : goal.returns
returns c = λ done j x lane.
    let e : c.loop-layer.layer ≡ (params c.args.set).d = omega (arith, c.d-layer-end.ensures, c.loop-layer-test.false) in
    rw e at (c.loop-layer.invariant.roots j x lane)
