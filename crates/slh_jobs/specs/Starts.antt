-- R and the digest of a message (FIPS 205, Algorithm 19, lines 2 to 5), and the signature that begins with them.
use Rattle.std.specs.Prelude.{◌≡◌, ℕ, List, ◌++◌, take, drop}
use Rattle.slh_params.specs.ParamSet.{params}
use Rattle.slh_core.specs.Keys.{Key, sk_seed, sk_prf, public_of, pk_seed, pk_root}
use Rattle.slh_core.specs.Signatures.{r_by, digest_of, signature_of_digest}
use Rattle.slh_core.specs.declared.randomizer.Randomizer.{Randomizer}
use Rattle.slh_jobs.specs.Jobs.{r_in, digest_in}
use Rattle.slh_jobs.specs.Tags.{OfStart, tag, begun_len}

-- the tag of R and a digest
abbrev pub start_tag : Key → List ℕ → List ℕ
start_tag sk begun = tag (params sk.set) (sk_seed sk) (sk_prf sk) (pk_seed (public_of sk)) (OfStart (pk_root (public_of sk)) begun)

-- R and the digest of the message under R, end to end
abbrev pub begun_by : Key → List ℕ → Randomizer → List ℕ
begun_by sk msg randomizer =
    let r = r_by sk msg randomizer in
    r ++ digest_of (public_of sk) r msg

-- these and their tag
abbrev pub start_by : Key → List ℕ → Randomizer → List ℕ
start_by sk msg randomizer =
    let begun = begun_by sk msg randomizer in
    begun ++ start_tag sk begun

-- bytes of the length of a start end with the tag of those before it
abbrev pub IsStart : Key → List ℕ → Type 0
IsStart sk start = start_tag sk (take (begun_len (params sk.set)) start) ≡ drop (begun_len (params sk.set)) start

-- the signature with this R, of this digest
abbrev pub signature_from : Key → List ℕ → List ℕ
signature_from sk start = r_in (params sk.set) start ++ signature_of_digest sk (digest_in (params sk.set) start)
