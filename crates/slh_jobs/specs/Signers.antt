-- The context that a key signs with: ours.
use Rattle.std.specs.Prelude.{◌≡◌}
use Rattle.slh_few.specs.declared.context.SigningContext.{SigningContext}
use Rattle.slh_core.specs.Keys.{Key, sk_seed, public_of, pk_seed}

-- it is under the key's set and seeds
pub record IsSignerOf (sk : Key) (signer : SigningContext) : Type 0 where
  pub set : signer.public.set ≡ sk.set
  pub sk_seed : signer.sk_seed.now ≡ sk_seed sk
  pub pk_seed : signer.public.pk_seed.now ≡ pk_seed (public_of sk)
