-- Without M' there is no valid signature: no bytes are none.
use Rattle.std.proofs.Common.{MatchOption, subst}
use Rattle.slh_core.specs.Messages.{bytes_of}
use Rattle.slh_core.specs.Signatures.{IsValid}
use Rattle.slh_core.proofs.EightVerdicts.{no_signature}
use Rattle.slh_par.proofs.eight_items.Formatted.parts.Goals as goal

pub returns-in-None : goal.returns-in-None
returns-in-None c =
    let x = c.args.self.now in (
      λ v. absurd (no_signature _ _ v),
      λ valid. absurd (subst (λ m. MatchOption m ⊥ (λ message. IsValid x.pk.now (bytes_of message) x.sig.now)) c.in-None.is valid),
    )
