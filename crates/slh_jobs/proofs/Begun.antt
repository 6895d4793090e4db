-- What is read from the start of a message, and the signature that begins with it.
use Rattle.std.proofs.Common.{◌≡◌, ℕ, List, ◌++◌, length, take, drop, ap, ◌∙◌, arith, length-append}
use Rattle.std.proofs.lemmas.List.{append_assoc, drop_at}
use Rattle.slh_params.specs.Params.{m}
use Rattle.slh_params.specs.ParamSet.{params}
use Rattle.slh_params.proofs.Bounds.{n_high}
use Rattle.slh_hash.proofs.Lengths.{length-PRF_msg, length-cut_hmac}
use Rattle.slh_few.proofs.XmssLaw.{take_front}
use Rattle.slh_core.specs.Keys.{Key, public_of}
use Rattle.slh_core.specs.Signatures.{r_by, digest_of, signature_of_digest, signature, signature_by}
use Rattle.slh_core.specs.declared.randomizer.Randomizer.{Randomizer}
use Rattle.slh_jobs.specs.Jobs.{r_in, digest_in}
use Rattle.slh_jobs.specs.Starts.{start_tag, start_by, signature_from}
use Rattle.slh_jobs.specs.Tags.{start_len}

-- the length of R
pub length-r : (sk : Key) (msg : List ℕ) (randomizer : Randomizer) → length (r_by sk msg randomizer) ≡ (params sk.set).n
length-r sk msg randomizer = length-PRF_msg (params sk.set) _ _ _ (n_high sk.set)

-- of a start that has its length, so has the digest
length-digest : (sk : Key) (msg : List ℕ) (randomizer : Randomizer) → length (start_by sk msg randomizer) ≡ start_len (params sk.set)
    → length (digest_of (public_of sk) (r_by sk msg randomizer) msg) ≡ m (params sk.set)
length-digest sk msg randomizer len =
    let r : List ℕ = r_by sk msg randomizer in
    let digest : List ℕ = digest_of (public_of sk) r msg in
    let tag : List ℕ = start_tag sk (r ++ digest) in
    let last : length tag ≡ (params sk.set).n = length-cut_hmac (params sk.set) _ _ (n_high sk.set) in
    omega (arith, len, length-append (r ++ digest) tag, length-append r digest, length-r sk msg randomizer, last)

-- what is read from it
pub r_read : (sk : Key) (msg : List ℕ) (randomizer : Randomizer) → r_in (params sk.set) (start_by sk msg randomizer) ≡ r_by sk msg randomizer
r_read sk msg randomizer =
    let n = (params sk.set).n in
    let r : List ℕ = r_by sk msg randomizer in
    let digest : List ℕ = digest_of (public_of sk) r msg in
    let tag : List ℕ = start_tag sk (r ++ digest) in
    ap (take n) (append_assoc r digest tag) ∙ take_front r (digest ++ tag) n (length-r sk msg randomizer)

pub digest_read : (sk : Key) (msg : List ℕ) (randomizer : Randomizer) → length (start_by sk msg randomizer) ≡ start_len (params sk.set)
    → digest_in (params sk.set) (start_by sk msg randomizer) ≡ digest_of (public_of sk) (r_by sk msg randomizer) msg
digest_read sk msg randomizer len =
    let p = params sk.set in
    let r : List ℕ = r_by sk msg randomizer in
    let digest : List ℕ = digest_of (public_of sk) r msg in
    let tag : List ℕ = start_tag sk (r ++ digest) in
    ap (λ (xs : List ℕ). take (m p) (drop p.n xs)) (append_assoc r digest tag)
    ∙ ap (take (m p)) (drop_at r (digest ++ tag) p.n (length-r sk msg randomizer))
    ∙ take_front digest tag (m p) (length-digest sk msg randomizer len)

-- the signature with this R, of this digest, is the message's
pub begun : (sk : Key) (msg : List ℕ) (randomizer : Randomizer) (start : List ℕ) → length start ≡ start_len (params sk.set)
    → start ≡ start_by sk msg randomizer → signature_from sk start ≡ signature_by sk msg randomizer
unfolding signature
begun sk msg randomizer start len is =
    let p = params sk.set in
    let r : List ℕ = r_by sk msg randomizer in
    ap (signature_from sk) is
    ∙ ap (λ (x : List ℕ). x ++ signature_of_digest sk (digest_in p (start_by sk msg randomizer))) (r_read sk msg randomizer)
    ∙ ap (λ (y : List ℕ). r ++ signature_of_digest sk y) (digest_read sk msg randomizer (rw is at len))
