-- The states of eight lanes of T: ours, over FIPS 205, section 11.2.
use Rattle.std.specs.Prelude.{◌≡◌, ℕ, List, ◌==◌, true, false, length}
use Rattle.slh_params.specs.Address.{Address}
use Rattle.slh_params.specs.Params.{Params}
use Rattle.slh_params.specs.ParamSet.{params}
use Rattle.slh_hash.specs.Hash.{tweaked}
use Rattle.slh_lanes.specs.Streams.{HoldsAt, HoldsLongAt}
use Rattle.slh_lanes.specs.declared.lane_stream.CategoryStream.{CategoryStream}
use Rattle.slh_lanes.specs.declared.lane_stream.CategoryStream.TheVariants.{Short, Long}
use Rattle.slh_lanes.specs.declared.lane_stream.LaneStream.{LaneStream}

-- the stream is that of the category of p, and its lane j holds the bytes that T hashes of x
abbrev pub HoldsForAt : CategoryStream → ℕ → Params → List ℕ → Address → List ℕ → Type 0
HoldsForAt (Short s) j p pk_seed adrs x = ((p.n == 16) ≡ true) × HoldsAt s j (tweaked 64 p pk_seed adrs x)
HoldsForAt (Long s) j p pk_seed adrs x = ((p.n == 16) ≡ false) × HoldsLongAt s j (tweaked 128 p pk_seed adrs x)

-- lane j of the stream has absorbed x, under these parameters, this PK.seed of n bytes and this address
unfoldable pub HasAbsorbedAt : LaneStream → ℕ → Params → List ℕ → Address → List ℕ → Type 0
HasAbsorbedAt s j p pk_seed adrs x =
    (params s.set ≡ p) × (length pk_seed ≡ p.n) × HoldsForAt s.stream j p pk_seed adrs x
