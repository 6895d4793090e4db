-- Lengths that the set gives.
use Rattle.std.specs.Prelude.{◌≡◌, length}
use Rattle.slh_params.specs.ParamSet.{params}
use Rattle.slh_params.specs.declared.param_set.ParamSet.{ParamSet}
use Rattle.slh_vectors.specs.declared.test.Seeds.{Seeds}

pub record AreSeeds (set : ParamSet) (s : Seeds) : Type 0 where
  pub sk_seed : length s.sk_seed.items ≡ (params set).n
  pub sk_prf : length s.sk_prf.items ≡ (params set).n
  pub pk_seed : length s.pk_seed.items ≡ (params set).n
