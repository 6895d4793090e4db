-- The key and signature of a `Verifier`, and the message that it was fed: ours, over FIPS 205, sections 10.3 and 11.2.
use Rattle.std.specs.Prelude.{◌≡◌, ℕ, ◌<◌, ◌≤◌, List, length, Option, None, Some}
use Rattle.slh_params.specs.ParamSet.{params}
use Rattle.slh_hash.specs.Stream.{HasMessage}
use Rattle.slh_hash.specs.declared.message.HMsg.{HMsg}
use Rattle.slh_core.specs.Keys.{Key, pk_seed, pk_root}
use Rattle.slh_core.specs.Messages.{pure_message}
use Rattle.slh_core.specs.Signatures.{get_r}
use Rattle.slh_core.specs.declared.verifier.Verifier.{Verifier}

-- there is none where the context is too long for an M'; else it is H_msg under R and the key, of M' so far
abbrev pub HoldsFirst : Option HMsg → Key → List ℕ → List ℕ → List ℕ → Type 0
HoldsFirst None pk ctx sig msg = 255 < length ctx
HoldsFirst (Some hash) pk ctx sig msg = let p = params pk.set in
    (length ctx ≤ 255) × HasMessage hash p (get_r p sig) (pk_seed pk) (pk_root pk) (pure_message ctx msg)

-- the verifier is of this key, this context and this signature, and was fed this message
unfoldable pub IsVerifierOf : Verifier → Key → List ℕ → List ℕ → List ℕ → Type 0
IsVerifierOf v pk ctx sig msg = (v.pk.now ≡ pk) × ((v.sig.now ≡ sig) × HoldsFirst v.hash pk ctx sig msg)
