-- Keys as C passes them: bytes (FIPS 205, section 9.1).
use Rattle.std.specs.Prelude.{ℕ, List}
use Rattle.slh_params.specs.declared.param_set.ParamSet.{ParamSet}
use Rattle.slh_core.specs.Keys.{Key}

abbrev pub key : ParamSet → List ℕ → Key
key set bytes = record { set = set; bytes = bytes }
