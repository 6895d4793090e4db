use Rattle.std.proofs.Common.{◌≡◌, ℕ, ◌≤◌, ◌<◌, length, get_or}
use Rattle.slh_params.specs.ParamSet.{params}
use Rattle.slh_few.specs.Hypertree.{layer_place}
use Rattle.slh_few.specs.declared.place.Place.{Place}
use Rattle.slh_few.proofs.hypertree.layer_places.Given as goal

abbrev pub invariant-loop-layer : goal.invariant-loop-layer
invariant-loop-layer l = record {
  long : length l.places ≡ 65;
  at : l.at ≡ layer_place (params l.set) l.idx_tree l.idx_leaf l.layer;
  done : (k : ℕ) (place : Place) → k < l.layer → get_or l.places k place ≡ layer_place (params l.set) l.idx_tree l.idx_leaf k;
  rest : (k : ℕ) (place : Place) → l.layer ≤ k → k < 65 → get_or l.places k place ≡ layer_place (params l.set) l.idx_tree l.idx_leaf 0;
}
