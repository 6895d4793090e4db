-- The midstates of eight PK.seeds: ours, over FIPS 205, section 11.2.
use Rattle.std.specs.Prelude.{◌≡◌, ◌≢◌, ℕ, List, length}
use Rattle.sha2.specs.Sha256.{compress, initial_hash_256}
use Rattle.sha2.specs.Sha512.{compress as long_compress, initial_hash_512}
use Rattle.slh_params.specs.ParamSet.{params}
use Rattle.slh_lanes.specs.Block.{first_block}
use Rattle.slh_lanes.specs.Columns.{column}
use Rattle.slh_lanes.specs.LongBlock.{long_first_block}
use Rattle.slh_lanes.specs.Streams.{long_vectors, vectors}
use Rattle.slh_lanes.specs.declared.lane_seeds.LaneSeeds.{LaneSeeds}

-- lane j has the midstates of this PK.seed of n bytes: SHA-256's, and SHA-512's if n is 24 or 32
unfoldable pub HasSeedAt : LaneSeeds → ℕ → List ℕ → Type 0
HasSeedAt s j pk_seed =
    let p = params s.set in
    (length pk_seed ≡ p.n)
    × (column j (vectors s.short) ≡ compress initial_hash_256 (first_block p pk_seed))
    × (p.n ≢ 16 → column j (long_vectors s.long) ≡ long_compress initial_hash_512 (long_first_block p pk_seed))
