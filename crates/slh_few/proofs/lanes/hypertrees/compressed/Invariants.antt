use Rattle.std.proofs.Common.{ℕ, ◌*◌, ◌<◌, List, slice_index_or, take}
use Rattle.slh_params.specs.Address.{WOTS_PK}
use Rattle.slh_params.specs.ParamSet.{params}
use Rattle.slh_lanes.specs.LaneSeeds.{HasSeedAt}
use Rattle.slh_lanes.specs.LaneStreams.{HasAbsorbedAt}
use Rattle.slh_few.specs.Wots.{wots_address}
use Rattle.slh_few.specs.declared.place.Place.{Place}
use Rattle.slh_few.proofs.lanes.hypertrees.compressed.Given as goal

abbrev pub invariant-loop-c : goal.invariant-loop-c
invariant-loop-c l = (j : ℕ) (pk : List ℕ) (at : Place) (e : List ℕ) → j < 8 → HasSeedAt l.seeds j pk
    → HasAbsorbedAt l.stream j (params l.set) pk (wots_address (slice_index_or l.places j at) WOTS_PK 0 0)
    (take (l.c * (params l.set).n) (slice_index_or l.ends j e))
