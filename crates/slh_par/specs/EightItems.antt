-- Signatures that are verified eight at a time: ours.
use Rattle.std.specs.Prelude.{MatchOption}
use Rattle.slh_core.specs.Messages.{bytes_of}
use Rattle.slh_core.specs.Signatures.{IsValid}
use Rattle.slh_par.specs.declared.eight_items.Formatted.{Formatted}

-- there is an M', and the signature is valid for it
abbrev pub IsFormattedValid : Formatted → Type 0
IsFormattedValid x = MatchOption x.message ⊥ (λ message. IsValid x.pk.now (bytes_of message) x.sig.now)
