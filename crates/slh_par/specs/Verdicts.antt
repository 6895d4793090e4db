-- Which signatures of a list are valid: ours.
use Rattle.std.specs.Prelude.{◌≤◌, ◌↔◌, List, Bool, IsTrue, length}
use Rattle.slh_core.specs.Messages.{message_in_form, form_with}
use Rattle.slh_core.specs.Signatures.{IsValid}
use Rattle.slh_workers.specs.Items.{AreAnswers}
use Rattle.slh_par.specs.declared.verify_item.VerifyItem.{VerifyItem}

-- the item's signature is valid, and its context at most 255 bytes (FIPS 205, Algorithms 24 and 25)
abbrev pub IsVerified : VerifyItem → Type 0
IsVerified item = (length item.ctx.now ≤ 255) × IsValid item.pk.now (message_in_form (form_with item.prehash) item.ctx.now item.msg.now) item.sig.now

-- as many answers as items, each of which says whether the item in its place is valid
abbrev pub AreVerdicts : List VerifyItem → List Bool → Type 0
AreVerdicts items answers = AreAnswers (λ item answer. IsTrue answer ↔ IsVerified item) items answers
