-- The midstates of a context in SIMD lanes: ours, over FIPS 205, section 11.2.
use Rattle.std.specs.Prelude.{◌≡◌, ℕ, List}
use Rattle.slh_params.specs.declared.param_set.ParamSet.{ParamSet}
use Rattle.slh_lanes.specs.declared.seeded_lanes.SeededLanes.{SeededLanes}

-- the lanes are under this set and this PK.seed
abbrev pub LanesUnder : ParamSet → List ℕ → SeededLanes → Type 0
LanesUnder set pk_seed lanes = (lanes.set ≡ set) × (lanes.pk_seed.now ≡ pk_seed)
