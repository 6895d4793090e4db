-- Without M' there is no valid signature: no bytes are none.
use Rattle.std.proofs.Common.{MatchOption, subst}
use Rattle.slh_core.specs.Signatures.{IsValid}
use Rattle.slh_core.proofs.EightVerdicts.{no_signature}
use Rattle.slh_vectors.specs.EightTests.{content_bytes}
use Rattle.slh_vectors.proofs.eight_tests.Signed.parts.Goals as goal

pub returns-in-None : goal.returns-in-None
returns-in-None c =
    let x = c.args.self.now in (
      λ v. absurd (no_signature _ _ v),
      λ valid. absurd (subst (λ m. MatchOption m ⊥ (λ content. IsValid x.pk (content_bytes content) x.sig.now)) c.in-None.is valid),
    )
