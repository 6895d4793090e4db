-- The ends of the chains of eight keys in lanes, and T of these keys: ours.
use Rattle.std.specs.Prelude.{◌≡◌, ℕ, ◌+◌, ◌<◌, List}
use Rattle.slh_params.specs.Address.{WOTS_PK}
use Rattle.slh_params.specs.Params.{Params}
use Rattle.slh_lanes.specs.Lanes.{value_at}
use Rattle.slh_lanes.specs.LaneStreams.{HasAbsorbedAt}
use Rattle.slh_lanes.specs.declared.lane_stream.LaneStream.{LaneStream}
use Rattle.slh_lanes.specs.declared.words.TheConstants.{GROUP}
use Rattle.slh_few.specs.Chunks.{end_to_end}
use Rattle.slh_few.specs.Wots.{wots_address, chain, secret, whole_chain}
use Rattle.slh_few.specs.Xmss.{place}
use Rattle.slh_few.specs.declared.place.Place.{Place}

-- the key in lane j of the eight from this place on
abbrev pub key_at : Place → ℕ → Place
key_at at j = place at.layer at.tree (at.pair + j)

-- the value of chain c after so many steps from its secret
abbrev pub value_after : Params → List ℕ → List ℕ → Place → ℕ → ℕ → List ℕ
value_after p sk_seed pk_seed at c steps = chain p pk_seed at c (secret p sk_seed pk_seed at c) 0 steps

-- the lanes hold the values of chain c, after so many steps, of the eight keys from this place on
abbrev pub AreAfter : Params → List ℕ → List ℕ → Place → ℕ → ℕ → List (List ℕ) → Type 0
AreAfter p sk_seed pk_seed at c steps values =
    (j : ℕ) → j < GROUP → value_at values j p.n ≡ value_after p sk_seed pk_seed (key_at at j) c steps

-- the lanes hold the ends of chain c of the eight keys from this place on
abbrev pub AreEnds : Params → List ℕ → List ℕ → Place → ℕ → List (List ℕ) → Type 0
AreEnds p sk_seed pk_seed at c ends =
    (j : ℕ) → j < GROUP → value_at ends j p.n ≡ whole_chain p sk_seed pk_seed (key_at at j) c

-- T of each of these keys has absorbed the ends of its first k chains
abbrev pub HaveAbsorbedEnds : Params → List ℕ → List ℕ → Place → ℕ → LaneStream → Type 0
HaveAbsorbedEnds p sk_seed pk_seed at k stream =
    (j : ℕ) → j < GROUP → HasAbsorbedAt stream j p pk_seed (wots_address (key_at at j) WOTS_PK 0 0)
    (end_to_end (whole_chain p sk_seed pk_seed (key_at at j)) k)
