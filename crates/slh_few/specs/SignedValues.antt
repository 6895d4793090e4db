-- The values of a signature by one of eight keys in lanes, from the digits that are given: ours.
use Rattle.std.specs.Prelude.{ℕ, ◌-◌, ◌≤◌, ◌<◌, List, slice_index}
use Rattle.slh_params.specs.Params.{Params, len, w}
use Rattle.slh_lanes.specs.declared.words.TheConstants.{GROUP}
use Rattle.slh_few.specs.KeyStreams.{key_at, value_after}
use Rattle.slh_few.specs.declared.place.Place.{Place}
use Rattle.slh_few.specs.declared.lanes.key_chains.SignedValues.{SignedValues}

-- there is such a lane, and a chain has as many steps as its digit says
abbrev pub Fits : SignedValues → Params → Type 0
Fits k p = (k.lane < GROUP) × ((c : ℕ) → c < len p → slice_index k.digits.now c ≤ w p - 1)

-- the value of chain c of the key in the lane
abbrev pub signed_value : SignedValues → Params → List ℕ → List ℕ → Place → ℕ → List ℕ
signed_value k p sk_seed pk_seed at c = value_after p sk_seed pk_seed (key_at at k.lane) c (slice_index k.digits.now c)
