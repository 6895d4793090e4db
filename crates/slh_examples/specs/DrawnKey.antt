-- The key that is drawn from a generator (FIPS 205, section 10.1, Algorithm 21).
use Rattle.rand_core.specs.Stream.{Stream, fill_bytes}
use Rattle.slh_params.specs.ParamSet.{params}
use Rattle.slh_params.specs.declared.param_set.ParamSet.{ParamSet}
use Rattle.slh_core.specs.Keys.{Key, generated_key}

-- three draws of n bytes each, in this order: SK.seed, SK.prf and PK.seed
abbrev pub drawn_key : ParamSet → Stream → Key
drawn_key set stream =
    let n = (params set).n in
    let sk_seed = fill_bytes n stream in
    let sk_prf = fill_bytes n sk_seed.1 in
    let pk_seed = fill_bytes n sk_prf.1 in
    generated_key set sk_seed.0 sk_prf.0 pk_seed.0
