-- Each turn goes one layer up.
use Rattle.std.proofs.Common.{◌≡◌, ◌+◌, ap, ◌∙◌, arith}
use Rattle.slh_params.specs.ParamSet.{params}
use Rattle.slh_few.specs.Hypertree.{place_above}
use Rattle.slh_few.proofs.Layers.{layer_place-start, layer_place-more}
use Rattle.slh_few.proofs.hypertree.layer_place.Goals as goal

pub loop-below-init : goal.loop-below-init
loop-below-init c = record { place = layer_place-start (params c.args.set) c.args.idx_tree c.args.idx_leaf; pair = c.requires.leaf }

pub loop-below-preserved : goal.loop-below-preserved
loop-below-preserved c = record {
  place = c.place_above-at.ensures.place ∙ ap (λ a. place_above (params c.args.set) a (c.loop-below.below + 1)) c.loop-below.invariant.place
      ∙ layer_place-more (params c.args.set) c.args.idx_tree c.args.idx_leaf c.loop-below.below;
  pair = c.place_above-at.ensures.pair;
}

pub returns-clause-place : goal.returns-clause-place
returns-clause-place c =
    let e : c.loop-below.below ≡ c.args.layer = omega arith in
    rw e at c.loop-below.invariant.place
