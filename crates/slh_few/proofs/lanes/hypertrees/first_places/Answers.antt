-- The place of each signature's leaf.
use Rattle.std.proofs.Common.{◌≡◌, ℕ, ◌<◌, List, [], ◌∷◌, slice_index_or, ap, ◌∙◌, arith}
use Rattle.std.proofs.lemmas.List.{get_or_default}
use Rattle.slh_params.specs.ParamSet.{params}
use Rattle.slh_lanes.proofs.Lanes8.{below_eight}
use Rattle.slh_few.specs.HtSignatures.{place_at}
use Rattle.slh_few.specs.Xmss.{place}
use Rattle.slh_few.specs.declared.hypertree.HtSignature.{HtSignature}
use Rattle.slh_few.specs.declared.place.Place.{Place}
use Rattle.slh_few.proofs.Layers.{layer_place-start}
use Rattle.slh_few.proofs.lanes.hypertrees.first_places.Goals as goal

pub returns : goal.returns
returns c = λ j x at lane.
    let p = params c.args.set in
    let signed = c.args.signed.now in
    let first = λ (k : ℕ) (y : HtSignature) (below : k < 8) (r : Place) (made : r ≡ place 0 (slice_index_or signed k y).idx_tree (slice_index_or signed k y).idx_leaf).
    made ∙ ap (λ (s : HtSignature). place 0 s.idx_tree s.idx_leaf) (get_or_default signed k y x (omega (arith, below, c.told-signed)))
    ∙ layer_place-start p (slice_index_or signed k x).idx_tree (slice_index_or signed k x).idx_leaf in
    let all : List Place = c.first_place.result ∷ c.first_place-2.result ∷ c.first_place-3.result ∷ c.first_place-4.result
    ∷ c.first_place-5.result ∷ c.first_place-6.result ∷ c.first_place-7.result ∷ c.first_place-8.result ∷ [] in
    below_eight (λ k. slice_index_or all k at ≡ place_at c.args.set (slice_index_or signed k x) 0)
    (first 0 _ (omega arith) _ c.first_place.ensures)
    (first 1 _ (omega arith) _ c.first_place-2.ensures)
    (first 2 _ (omega arith) _ c.first_place-3.ensures)
    (first 3 _ (omega arith) _ c.first_place-4.ensures)
    (first 4 _ (omega arith) _ c.first_place-5.ensures)
    (first 5 _ (omega arith) _ c.first_place-6.ensures)
    (first 6 _ (omega arith) _ c.first_place-7.ensures)
    (first 7 _ (omega arith) _ c.first_place-8.ensures) j lane
