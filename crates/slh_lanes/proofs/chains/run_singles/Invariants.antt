use Rattle.std.proofs.Common.{◌≡◌, ℕ, ◌<◌, ◌≤◌, List, length, slice_index}
use Rattle.sha2.specs.Sha256.{compress, initial_hash_256}
use Rattle.slh_params.specs.Address.{Address}
use Rattle.slh_params.specs.Params.{Params}
use Rattle.slh_lanes.specs.Block.{first_block}
use Rattle.slh_lanes.specs.Columns.{column}
use Rattle.slh_lanes.specs.Lanes.{HasAddress, value_at}
use Rattle.slh_lanes.specs.Steps.{steps}
use Rattle.slh_lanes.proofs.chains.run_singles.Given as goal

abbrev pub invariant-lanes : goal.invariant-lanes
invariant-lanes g l =
    ((p : Params) (pk_seed : List ℕ) (i : ℕ) (a : Address) → p.n ≡ l.n → length pk_seed ≡ p.n → i < l.lane
    → l.short ≡ compress initial_hash_256 (first_block p pk_seed) → HasAddress l.adrs i a
    → value_at l.nodes i p.n ≡ steps p pk_seed a (value_at l.x i p.n) (slice_index l.from i) (slice_index l.counts i))
    × ((i : ℕ) → l.lane ≤ i → column i l.nodes ≡ column i l.x)
