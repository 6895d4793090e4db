-- What `hash_sign_digest` says of the key and the digest holds of the bytes that they were read from.
use Rattle.std.proofs.Common.{◌≡◌, subst, List, ℕ}
use Rattle.slh_core.specs.Keys.{Key, public_of, IsGeneratedKey}
use Rattle.slh_core.specs.Messages.{pre_hash_message}
use Rattle.slh_core.specs.PreHash.{Digest}
use Rattle.slh_core.specs.Signatures.{IsValid}
use Rattle.slh_c.proofs.Numbered.{some_and}
use Rattle.slh_c.proofs.pre_hash_form.slh_hash_sign_digest.Goals as goal

abbrev Authentic : List ℕ → List ℕ → Key → Digest → Type 0
Authentic ctx sig sk digest = IsGeneratedKey sk → IsValid (public_of sk) (pre_hash_message ctx digest.function digest.bytes) sig

of_bytes : (ctx sig : List ℕ) {sk sk' : Key} {digest digest' : Digest} → sk ≡ sk' → digest ≡ digest' → Authentic ctx sig sk digest → Authentic ctx sig sk' digest'
of_bytes ctx sig {sk} {sk'} {digest} {digest'} e f h =
    subst (λ it. Authentic ctx sig sk' it) f (subst (λ it. Authentic ctx sig it digest) e h)

pub returns-in-Ok-hash_sign_digest-clause-authentic : goal.returns-in-Ok-hash_sign_digest-clause-authentic
returns-in-Ok-hash_sign_digest-clause-authentic c =
    let set_is = c.in-Ok.ensures.set in
    let function_is = c.in-Ok-function_of.ensures.function in
    λ _. some_and _ set_is (some_and _ function_is (of_bytes c.args.ctx.now c.hash_sign_digest.new.out c.in-Ok-secret_key.ensures.key c.in-Some.ensures.digest c.in-Ok-hash_sign_digest.ensures.authentic))
