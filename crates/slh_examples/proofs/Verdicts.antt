-- What the answers of `verify_all` about two items say of each.
use Rattle.std.proofs.Common.{◌≡◌, ◌↔◌, ◌∷◌, [], List, Bool, IsTrue, slice_index_or, sym, arith}
use Rattle.slh_par.specs.Verdicts.{IsVerified, AreVerdicts}
use Rattle.slh_par.specs.declared.verify_item.VerifyItem.{VerifyItem}

pub first_verdict : (a b : VerifyItem) (answers : List Bool) (x : Bool) → AreVerdicts (a ∷ b ∷ []) answers → x ≡ slice_index_or answers 0 x → IsTrue x ↔ IsVerified a
first_verdict a b answers x v is = rw (sym is) at (v.each 0 a x (omega arith))

pub second_verdict : (a b : VerifyItem) (answers : List Bool) (x : Bool) → AreVerdicts (a ∷ b ∷ []) answers → x ≡ slice_index_or answers 1 x → IsTrue x ↔ IsVerified b
second_verdict a b answers x v is = rw (sym is) at (v.each 1 a x (omega arith))
