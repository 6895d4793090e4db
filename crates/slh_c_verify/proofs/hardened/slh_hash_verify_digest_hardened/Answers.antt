-- What `hash_verify_digest_hardened` says of the key and the digest holds of the bytes that they were read from.
use Rattle.std.proofs.Common.{◌≡◌, ◌≤◌, ◌↔◌, subst, refl, ℕ, List, length, Option, Some, IsSomeAnd}
use Rattle.slh_core.specs.Keys.{Key}
use Rattle.slh_core.specs.Messages.{pre_hash_message}
use Rattle.slh_core.specs.PreHash.{Digest}
use Rattle.slh_core.specs.Signatures.{IsValid}
use Rattle.slh_core.specs.declared.hardened.TheConstants.{HARDENED_VALID}
use Rattle.slh_c_verify.proofs.Numbered.{some_and}
use Rattle.slh_c_verify.proofs.hardened.slh_hash_verify_digest_hardened.Goals as goal

of_some_and : {A : Type 0} (P : A → Type 0) {o : Option A} {x : A} → o ≡ Some x → IsSomeAnd o P → P x
of_some_and P e holds = subst (λ it. IsSomeAnd it P) e holds

abbrev Verdict : ℕ → List ℕ → List ℕ → Key → Digest → Type 0
Verdict verdict ctx sig pk digest =
    (verdict ≡ HARDENED_VALID) ↔ ((length ctx ≤ 255) × IsValid pk (pre_hash_message ctx digest.function digest.bytes) sig)

-- what holds of a key and a digest holds of their bytes
of_bytes : (verdict : ℕ) (ctx sig : List ℕ) {pk pk' : Key} {digest digest' : Digest}
    → pk ≡ pk' → digest ≡ digest' → Verdict verdict ctx sig pk digest → Verdict verdict ctx sig pk' digest'
of_bytes verdict ctx sig {pk} {pk'} {digest} {digest'} e f h =
    subst (λ it. Verdict verdict ctx sig pk' it) f (subst (λ it. Verdict verdict ctx sig it digest) e h)

pub returns-clause-valid : goal.returns-clause-valid
returns-clause-valid c =
    let set_is = c.in-Ok.ensures.set in
    let function_is = c.in-Ok-function_of.ensures.function in
    let verdict = of_bytes c.hash_verify_digest_hardened.result c.args.ctx.now c.args.sig.now c.in-Ok-public_key.ensures.key c.in-Some.ensures.digest c.hash_verify_digest_hardened.ensures.valid in (
      λ is.
          let facts = verdict.0 is in
          some_and _ set_is (some_and _ function_is (c.in-Ok-public_key.ensures.accepted.0 refl, c.in-Some.ensures.accepted.0 refl, facts.0, facts.1)),
      λ valid.
          let facts = of_some_and _ function_is (of_some_and _ set_is valid) in verdict.1 (facts.2, facts.3),
    )
