-- Sources of random bytes: ours; and the keys drawn from them (FIPS 205, section 10.1, Algorithm 21).
use Rattle.std.specs.Prelude.{◌≡◌, ℕ, ◌+◌, ◌-◌, ◌^◌, List, length, min}
use Rattle.slh_params.specs.ParamSet.{params}
use Rattle.slh_params.specs.declared.param_set.ParamSet.{ParamSet}
use Rattle.slh_core.specs.Keys.{Key, generated_key}

-- a count of failures after one more: a number of 64 bits, which stays at its last value
abbrev pub one_more : ℕ → ℕ
one_more count = min (count + 1) (2 ^ 64 - 1)

-- the key is that of three draws in a row: SK.seed, SK.prf and PK.seed, each of n bytes (Algorithm 21).
-- `second` and `third` are the source before the second and the third draw
pub record IsKeyOfDraws {S : Type 0} (Draws : S → List ℕ → S → Type 0) (set : ParamSet) (before : S) (key : Key) (after : S) : Type 0 where
  pub sk_seed : List ℕ
  pub sk_prf : List ℕ
  pub pk_seed : List ℕ
  pub second : S
  pub third : S
  pub sk_seed_drawn : Draws before sk_seed second
  pub sk_prf_drawn : Draws second sk_prf third
  pub pk_seed_drawn : Draws third pk_seed after
  pub sk_seed_len : length sk_seed ≡ (params set).n
  pub sk_prf_len : length sk_prf ≡ (params set).n
  pub pk_seed_len : length pk_seed ≡ (params set).n
  pub generated : key ≡ generated_key set sk_seed sk_prf pk_seed
