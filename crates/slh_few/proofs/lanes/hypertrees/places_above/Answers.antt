-- Each place one layer up.
use Rattle.std.proofs.Common.{◌≡◌, ℕ, ◌<◌, List, [], ◌∷◌, slice_index_or, ap, ◌∙◌, arith}
use Rattle.std.proofs.lemmas.List.{get_or_default}
use Rattle.slh_params.specs.ParamSet.{params}
use Rattle.slh_lanes.proofs.Lanes8.{below_eight}
use Rattle.slh_few.specs.Hypertree.{place_above}
use Rattle.slh_few.specs.declared.place.Place.{Place}
use Rattle.slh_few.proofs.lanes.hypertrees.places_above.Goals as goal

pub returns : goal.returns
returns c = λ j at lane.
    let places = c.args.places.now in
    let up : Place → Place = λ (a : Place). place_above (params c.args.set) a c.args.layer in
    let own = λ (k : ℕ) (d : Place) (below : k < 8). ap up (get_or_default places k d at (omega (arith, below, c.told-places))) in
    let all : List Place = c.place_above.result ∷ c.place_above-2.result ∷ c.place_above-3.result ∷ c.place_above-4.result
    ∷ c.place_above-5.result ∷ c.place_above-6.result ∷ c.place_above-7.result ∷ c.place_above-8.result ∷ [] in
    below_eight (λ k. slice_index_or all k at ≡ up (slice_index_or places k at))
    (c.place_above.ensures.place ∙ own 0 _ (omega arith))
    (c.place_above-2.ensures.place ∙ own 1 _ (omega arith))
    (c.place_above-3.ensures.place ∙ own 2 _ (omega arith))
    (c.place_above-4.ensures.place ∙ own 3 _ (omega arith))
    (c.place_above-5.ensures.place ∙ own 4 _ (omega arith))
    (c.place_above-6.ensures.place ∙ own 5 _ (omega arith))
    (c.place_above-7.ensures.place ∙ own 6 _ (omega arith))
    (c.place_above-8.ensures.place ∙ own 7 _ (omega arith)) j lane
