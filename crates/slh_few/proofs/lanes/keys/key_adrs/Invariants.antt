use Rattle.std.proofs.Common.{ℕ, ◌+◌, ◌<◌, List}
use Rattle.slh_params.specs.AdrsType.{type_number}
use Rattle.slh_lanes.specs.Lanes.{HasAddress}
use Rattle.slh_few.specs.KeyStreams.{key_at}
use Rattle.slh_few.specs.Wots.{wots_address}
use Rattle.slh_lanes.proofs.Batches.{Done}
use Rattle.slh_few.proofs.lanes.keys.key_adrs.Given as goal

abbrev pub invariant-loop-g : goal.invariant-loop-g
invariant-loop-g over l =
    Done (λ (i : ℕ) (y : List (List ℕ)). (j : ℕ) → j < 8
    → HasAddress y j (wots_address (key_at l.at j) (type_number l.fn.kind) (l.c + i) 0)) l.g l.initial.adrs l.adrs
