-- Chains that run in lanes: ours.
use Rattle.std.specs.Prelude.{◌≡◌, ℕ, ◌+◌, ◌-◌, ◌<◌, ◌≤◌, List, [], get_or, slice_index}
use Rattle.slh_params.specs.Address.{WOTS_HASH}
use Rattle.slh_params.specs.Params.{Params}
use Rattle.slh_lanes.specs.Lanes.{HasAddress, value_at}
use Rattle.slh_lanes.specs.declared.words.TheConstants.{GROUP}
use Rattle.slh_few.specs.Wots.{chain, wots_address}
use Rattle.slh_few.specs.declared.lanes.running_chains.RunningChains.{RunningChains}
use Rattle.slh_few.specs.declared.place.Place.{Place}

-- what runs in group g of a batch
abbrev pub running_at : List RunningChains → ℕ → RunningChains
running_at batch g = get_or batch g (record { numbers = []; steps = []; left = [] })

-- each lane has the address of a chain at a place
abbrev pub ChainsAt : List (List ℕ) → Place → Type 0
ChainsAt adrs at = (j : ℕ) → j < GROUP → HasAddress adrs j (wots_address at WOTS_HASH 0 0)

-- the value in each lane, run on by the steps that its chain has left, is the end of its chain
abbrev pub EndAt : (ℕ → List ℕ) → Params → List ℕ → Place → RunningChains → List (List ℕ) → Type 0
EndAt end p pk_seed at running nodes = (j : ℕ) → j < GROUP
    → chain p pk_seed at (slice_index running.numbers j) (value_at nodes j p.n)
    (slice_index running.steps j) (slice_index running.left j) ≡ end (slice_index running.numbers j)

-- no chain runs past so many steps
abbrev pub StaysWithin : ℕ → RunningChains → Type 0
StaysWithin most running = (j : ℕ) → j < GROUP → slice_index running.steps j + slice_index running.left j ≤ most

-- the chain in a lane is as it was
pub record IsSameChain (before after : RunningChains) (j : ℕ) : Type 0 where
  pub number : slice_index after.numbers j ≡ slice_index before.numbers j
  pub step : slice_index after.steps j ≡ slice_index before.steps j
  pub left : slice_index after.left j ≡ slice_index before.left j

-- each chain has taken so many steps of those that it had left
pub record IsAdvanced (count : ℕ) (before after : RunningChains) : Type 0 where
  pub numbers : after.numbers ≡ before.numbers
  pub steps : (j : ℕ) → j < GROUP → slice_index after.steps j ≡ slice_index before.steps j + count
  pub left : (j : ℕ) → j < GROUP → slice_index after.left j ≡ slice_index before.left j - count
