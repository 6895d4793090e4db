use Rattle.std.proofs.Common.{ℕ, ◌<◌, slice_index_or}
use Rattle.slh_lanes.specs.Lanes.{HasAddress}
use Rattle.slh_few.specs.declared.place.Place.{Place}
use Rattle.slh_params.specs.AdrsType.{type_number}
use Rattle.slh_few.specs.Wots.{wots_address}
use Rattle.slh_few.proofs.lanes.hypertrees.place_adrs.Given as goal

abbrev pub invariant-loop-j : goal.invariant-loop-j
invariant-loop-j l = (i : ℕ) (at : Place) → i < l.j
    → HasAddress l.adrs i (wots_address (slice_index_or l.places i at) (type_number l.kind) 0 0)
