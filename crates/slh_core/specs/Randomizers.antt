-- The randomizer of a signature (FIPS 205, section 9.2, Algorithm 19, line 2).
use Rattle.std.specs.Prelude.{◌≡◌, ℕ, List, length}
use Rattle.slh_core.specs.declared.randomizer.Randomizer.{Randomizer}
use Rattle.slh_core.specs.declared.randomizer.Randomizer.TheVariants.{Deterministic, Given}

-- opt_rand: PK.seed in the deterministic variant, else the given bytes
abbrev pub opt_rand : Randomizer → List ℕ → List ℕ
opt_rand Deterministic pk_seed = pk_seed
opt_rand (Given bytes) pk_seed = bytes.now

-- given bytes are n
abbrev pub HasLength : Randomizer → ℕ → Type 0
HasLength Deterministic n = Unit {0}
HasLength (Given bytes) n = length bytes.now ≡ n
