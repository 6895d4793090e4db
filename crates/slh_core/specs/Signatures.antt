-- Signing and verifying (FIPS 205, sections 9.2 and 9.3, Algorithms 19 and 20).
use Rattle.std.specs.Prelude.{◌≡◌, ℕ, ◌*◌, List, ◌++◌, length, take, drop}
use Rattle.slh_params.specs.Params.{Params, sig_len}
use Rattle.slh_params.specs.ParamSet.{params}
use Rattle.slh_hash.specs.Keyed.{PRF_msg, H_msg}
use Rattle.slh_few.specs.Fors.{fors_part_len, fors_sig, fors_pk_from_sig}
use Rattle.slh_few.specs.Hypertree.{ht_sig, ht_root_from_sig}
use Rattle.slh_core.specs.Keys.{Key, sk_seed, sk_prf, public_of, pk_seed, pk_root}
use Rattle.slh_core.specs.Randomizers.{opt_rand}
use Rattle.slh_core.specs.declared.randomizer.Randomizer.{Randomizer}
use Rattle.slh_core.specs.DigestParts.{md, idx_tree, idx_leaf}

-- the digest of a message under a public key and R
abbrev pub digest_of : Key → List ℕ → List ℕ → List ℕ
digest_of pk r msg = H_msg (params pk.set) r (pk_seed pk) (pk_root pk) msg

-- the FORS signature of a digest
abbrev pub fors_sig_of : Key → List ℕ → List ℕ
fors_sig_of sk digest =
    let p = params sk.set in
    fors_sig p (sk_seed sk) (pk_seed (public_of sk)) (idx_tree p digest) (idx_leaf p digest) (md p digest)

-- the FORS public key that a FORS signature of a digest gives
abbrev pub pk_fors_of : Key → List ℕ → List ℕ → List ℕ
pk_fors_of pk digest sig_fors =
    let p = params pk.set in
    fors_pk_from_sig p (pk_seed pk) (idx_tree p digest) (idx_leaf p digest) (md p digest) sig_fors

-- the hypertree signature of a FORS public key, at the place that a digest names
abbrev pub ht_sig_of : Key → List ℕ → List ℕ → List ℕ
ht_sig_of sk digest pk_fors =
    let p = params sk.set in
    ht_sig p (sk_seed sk) (pk_seed (public_of sk)) pk_fors (idx_tree p digest) (idx_leaf p digest)

-- the part of the signature of a digest after R: its FORS signature, and the hypertree signature of the FORS public key
-- that this gives
unfoldable pub signature_of_digest : Key → List ℕ → List ℕ
signature_of_digest sk digest =
    let sig_fors = fors_sig_of sk digest in
    sig_fors ++ ht_sig_of sk digest (pk_fors_of (public_of sk) digest sig_fors)

-- the signature of a message under opt_rand (Algorithm 19)
unfoldable pub signature : Key → List ℕ → List ℕ → List ℕ
signature sk msg opt_rand =
    let r = PRF_msg (params sk.set) (sk_prf sk) opt_rand msg in
    r ++ signature_of_digest sk (digest_of (public_of sk) r msg)

-- the signature of a message under a `Randomizer`
abbrev pub signature_by : Key → List ℕ → Randomizer → List ℕ
signature_by sk msg randomizer = signature sk msg (opt_rand randomizer (pk_seed (public_of sk)))

-- the R of that signature
abbrev pub r_by : Key → List ℕ → Randomizer → List ℕ
r_by sk msg randomizer = PRF_msg (params sk.set) (sk_prf sk) (opt_rand randomizer (pk_seed (public_of sk))) msg

-- the length of a FORS signature
abbrev pub fors_sig_len : Params → ℕ
fors_sig_len p = p.k * fors_part_len p

-- R, SIG_FORS and SIG_HT of a signature
abbrev pub get_r : Params → List ℕ → List ℕ
get_r p sig = take p.n sig

abbrev pub get_sig_fors : Params → List ℕ → List ℕ
get_sig_fors p sig = take (fors_sig_len p) (drop p.n sig)

abbrev pub get_sig_ht : Params → List ℕ → List ℕ
get_sig_ht p sig = drop (fors_sig_len p) (drop p.n sig)

-- the root of the top tree that a FORS signature of a digest and a hypertree signature give
unfoldable pub root_of_parts : Key → List ℕ → List ℕ → List ℕ → List ℕ
root_of_parts pk digest sig_fors sig_ht =
    let p = params pk.set in
    ht_root_from_sig p (pk_seed pk) (pk_fors_of pk digest sig_fors) (idx_tree p digest) (idx_leaf p digest) sig_ht

-- the root of the top tree that a signature of a message gives
abbrev pub root_of_signature : Key → List ℕ → List ℕ → List ℕ
root_of_signature pk msg sig =
    let p = params pk.set in
    root_of_parts pk (digest_of pk (get_r p sig) msg) (get_sig_fors p sig) (get_sig_ht p sig)

-- the bytes are a valid signature of the message under the public key (Algorithm 20)
pub record IsValid (pk : Key) (msg sig : List ℕ) : Type 0 where
  pub len : length sig ≡ sig_len (params pk.set)
  pub root : root_of_signature pk msg sig ≡ pk_root pk
