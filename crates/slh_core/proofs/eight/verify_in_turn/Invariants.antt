use Rattle.std.proofs.Common.{◌≡◌, ◌↔◌, ℕ, ◌<◌, Bool, IsTrue, length, get_or}
use Rattle.slh_core.specs.EightSignatures.{IsPartsValid}
use Rattle.slh_core.specs.declared.eight.SignedParts.{SignedParts}
use Rattle.slh_core.proofs.eight.verify_in_turn.Given as goal

abbrev pub invariant-loop-j : goal.invariant-loop-j
invariant-loop-j l = (length l.valid ≡ 8) × ((i : ℕ) (valid : Bool) (item : SignedParts)
    → i < l.j → IsTrue (get_or l.valid i valid) ↔ IsPartsValid (get_or l.items i item))
