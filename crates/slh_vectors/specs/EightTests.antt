-- Verify tests that are run together: ours.
use Rattle.std.specs.Prelude.{ℕ, List, MatchOption}
use Rattle.slh_core.specs.Messages.{bytes_of}
use Rattle.slh_core.specs.Signatures.{IsValid}
use Rattle.slh_vectors.specs.Cases.{VerifyCase}
use Rattle.slh_vectors.specs.Outcomes.{IsValidFor}
use Rattle.slh_vectors.specs.declared.eight_tests.Content.{Content}
use Rattle.slh_vectors.specs.declared.eight_tests.Content.TheVariants.{Message, Formatted}
use Rattle.slh_vectors.specs.declared.eight_tests.Signed.{Signed}

-- the bytes of M'
abbrev pub content_bytes : Content → List ℕ
content_bytes (Message message) = message.now
content_bytes (Formatted formatted) = bytes_of formatted

-- there is an M', and the signature is valid for it
abbrev pub IsSignedValid : Signed → Type 0
IsSignedValid x = MatchOption x.content ⊥ (λ content. IsValid x.pk (content_bytes content) x.sig.now)

-- the signature of the test is valid
abbrev pub IsTestValid : VerifyCase → Type 0
IsTestValid t = IsValidFor t.input (record { set = t.set; bytes = t.pk }) t.signature
