use Rattle.std.proofs.Common.{◌≡◌, ℕ, ◌<◌, List, slice_index}
use Rattle.slh_params.specs.Address.{WOTS_HASH}
use Rattle.slh_lanes.specs.Lanes.{HasAddress}
use Rattle.slh_lanes.proofs.Batches.{Done}
use Rattle.slh_few.specs.RunningChains.{ChainsAt, running_at}
use Rattle.slh_few.specs.Wots.{wots_address}
use Rattle.slh_few.specs.declared.place.Place.{Place}
use Rattle.slh_few.proofs.lanes.running_chains.run_batch.Given as goal

abbrev pub invariant-loop-g : goal.invariant-loop-g
invariant-loop-g over l = record {
  own : Done (λ (i : ℕ) (y : List (List ℕ)). (at : Place) → ChainsAt l.adrs at → (j : ℕ) → j < 8
      → HasAddress y j (wots_address at WOTS_HASH (slice_index (running_at l.running i).numbers j) 0)) l.g l.initial.own l.own;
  from : Done (λ (i : ℕ) (y : List ℕ). y ≡ (running_at l.running i).steps) l.g l.initial.from l.from;
}
