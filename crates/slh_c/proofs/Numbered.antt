-- What holds of a set, a function or levels holds of the numbers that they were made of.
use Rattle.std.proofs.Common.{◌≡◌, ℕ, Option, Some, IsSomeAnd, sym, subst}
use Rattle.slh_jobs.specs.declared.levels.Levels.{Levels}
use Rattle.slh_c.specs.Cuttings.{WithLevels, levels_of}
use Rattle.slh_c.specs.Numbers.{set_numbered}

pub some_and : {A : Type 0} (P : A → Type 0) {o : Option A} {x : A} → o ≡ Some x → P x → IsSomeAnd o P
some_and P e holds = subst (λ it. IsSomeAnd it P) (sym e) holds

pub with_levels : (P : Levels → Type 0) (set xmss fors : ℕ) {c : Levels}
    → set_numbered set ≡ Some c.set → levels_of c.set xmss fors ≡ Some c → P c → WithLevels set xmss fors P
with_levels P set xmss fors e f holds =
    subst (λ o. IsSomeAnd o (λ s. IsSomeAnd (levels_of s xmss fors) P)) (sym e) (subst (λ o. IsSomeAnd o P) (sym f) holds)
