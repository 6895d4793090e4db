-- What holds of a set or a function holds of the number that it was made of.
use Rattle.std.proofs.Common.{◌≡◌, Option, Some, IsSomeAnd, sym, subst}

pub some_and : {A : Type 0} (P : A → Type 0) {o : Option A} {x : A} → o ≡ Some x → P x → IsSomeAnd o P
some_and P e holds = subst (λ it. IsSomeAnd it P) (sym e) holds
