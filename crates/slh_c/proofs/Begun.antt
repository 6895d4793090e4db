-- The starts and signatures under the bytes of a randomizer are those under a `Randomizer`.
use Rattle.std.proofs.Common.{◌≡◌, ℕ, List, [], ◌∷◌, refl}
use Rattle.slh_core.specs.Keys.{Key}
use Rattle.slh_core.specs.Signatures.{signature_by}
use Rattle.slh_core.specs.declared.randomizer.Randomizer.{Randomizer}
use Rattle.slh_core.specs.declared.randomizer.Randomizer.TheVariants.{Deterministic, Given}
use Rattle.slh_jobs.specs.Starts.{start_by}
use Rattle.slh_c.specs.Keys.{start_under, signature_under}

-- the randomizer of these bytes
abbrev pub of_bytes : List ℕ → Randomizer
of_bytes [] = Deterministic
of_bytes (byte ∷ bytes) = Given (record { ref_ptr = (0, 0); now = byte ∷ bytes })

-- the start under it, and the signature
pub start_of_bytes : (sk : Key) (msg bytes : List ℕ) → start_under sk msg bytes ≡ start_by sk msg (of_bytes bytes)
start_of_bytes sk msg [] = refl
start_of_bytes sk msg (byte ∷ bytes) = refl

pub signature_of_bytes : (sk : Key) (msg bytes : List ℕ) → signature_by sk msg (of_bytes bytes) ≡ signature_under sk msg bytes
signature_of_bytes sk msg [] = refl
signature_of_bytes sk msg (byte ∷ bytes) = refl
