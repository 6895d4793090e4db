-- Keys and randomizers as C passes them: bytes (FIPS 205, sections 9.1 and 9.2).
use Rattle.std.specs.Prelude.{ℕ, List, [], ◌∷◌, ◌++◌}
use Rattle.slh_params.specs.declared.param_set.ParamSet.{ParamSet}
use Rattle.slh_params.specs.ParamSet.{params}
use Rattle.slh_hash.specs.Keyed.{PRF_msg}
use Rattle.slh_core.specs.Keys.{Key, sk_prf, public_of, pk_seed}
use Rattle.slh_core.specs.Signatures.{signature, digest_of}
use Rattle.slh_jobs.specs.Starts.{start_tag}

abbrev pub key : ParamSet → List ℕ → Key
key set bytes = record { set = set; bytes = bytes }

-- opt_rand by the bytes of a randomizer: PK.seed if there are none, else these (FIPS 205, section 9.2)
abbrev pub opt_rand_of : List ℕ → Key → List ℕ
opt_rand_of [] sk = pk_seed (public_of sk)
opt_rand_of (byte ∷ bytes) sk = byte ∷ bytes

-- the signature of M' under the bytes of a randomizer
abbrev pub signature_under : Key → List ℕ → List ℕ → List ℕ
signature_under sk msg randomizer = signature sk msg (opt_rand_of randomizer sk)

-- R and the digest of M' under the bytes of a randomizer (Algorithm 19, lines 2 to 5), and their tag
abbrev pub start_under : Key → List ℕ → List ℕ → List ℕ
start_under sk msg randomizer =
    let r = PRF_msg (params sk.set) (sk_prf sk) (opt_rand_of randomizer sk) msg in
    let begun = r ++ digest_of (public_of sk) r msg in
    begun ++ start_tag sk begun
