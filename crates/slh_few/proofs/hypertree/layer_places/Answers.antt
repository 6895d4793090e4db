-- After each layer the first places are those of the layers, and the next place is that of the layer after.
use Rattle.std.proofs.Common.{◌+◌, refl, ap, ◌∙◌, arith, inl, inr}
use Rattle.std.proofs.lemmas.Bool.{cases_eq}
use Rattle.std.proofs.lemmas.List.{get_or-replicate, get_or-set_other, length-set}
use Rattle.std.proofs.lemmas.Grind.{get_or-set_at}
use Rattle.slh_params.specs.ParamSet.{params}
use Rattle.slh_few.specs.Hypertree.{place_above, layer_place}
use Rattle.slh_params.proofs.Bounds.{d_high}
use Rattle.slh_few.proofs.Layers.{layer_place-start, layer_place-more}
use Rattle.slh_few.proofs.hypertree.layer_places.Goals as goal

pub loop-layer-init : goal.loop-layer-init
loop-layer-init c = record {
  long = refl;
  at = layer_place-start (params c.args.set) c.args.idx_tree c.args.idx_leaf;
  done = λ k place l. absurd (omega (arith, l));
  rest = λ k place low high. get_or-replicate 65 k _ place high ∙ layer_place-start (params c.args.set) c.args.idx_tree c.args.idx_leaf;
}

pub loop-layer-preserved : goal.loop-layer-preserved
loop-layer-preserved c =
    let p = params c.args.set in
    let t = c.args.idx_tree in
    let i = c.args.idx_leaf in
    record {
      long = length-set c.loop-layer.places c.loop-layer.layer c.loop-layer.at ∙ c.loop-layer.invariant.long;
      at = c.place_above-at.ensures.place ∙ ap (λ a. place_above p a (c.loop-layer.layer + 1)) c.loop-layer.invariant.at
          ∙ layer_place-more p t i c.loop-layer.layer;
      done = λ k place l.
          elim (cases_eq k c.loop-layer.layer) [
            | inl same ↦ get_or-set_at c.loop-layer.places c.loop-layer.layer k c.loop-layer.at place same (omega (arith, c.loop-layer.invariant.long, c.d-layer-end.ensures, d_high c.args.set))
                ∙ c.loop-layer.invariant.at ∙ ap (layer_place p t i) (omega (arith, same))
            | inr ne ↦ get_or-set_other c.loop-layer.places c.loop-layer.layer k c.loop-layer.at place ne
                ∙ c.loop-layer.invariant.done k place (omega (arith, l, ne))
          ];
      rest = λ k place low high. get_or-set_other c.loop-layer.places c.loop-layer.layer k c.loop-layer.at place (λ same. absurd (omega (arith, low, same)))
          ∙ c.loop-layer.invariant.rest k place (omega (arith, low)) high;
    }

pub returns-clause-places : goal.returns-clause-places
returns-clause-places c l place below = c.loop-layer.invariant.done l place (omega (arith, c.d-layer-end.ensures, below))

pub returns-clause-rest : goal.returns-clause-rest
returns-clause-rest c = λ l place low high.
    c.loop-layer.invariant.rest l place (omega (arith, low, c.d-layer-end.ensures, c.loop-layer-test.false)) high
