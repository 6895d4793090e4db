-- What the proofs of `allocate` and `deallocate` share. Assumes `Logic`.
--     args, self, Said      the types that the code stands at, the reference to the wrapper, and the size and the
--                           alignment of the block's type
use mathlib.Core.Path.{◌≡◌}
use Prim.Native.Nat.{ℕ}
use mathlib.Core.List.{[], ◌∷◌}
use mir.Syntax.{Ty, Args, a_type, dnil, dcons}
use prog.Memory.{size, align, capped}
use denote.Param.{bounded, param}
use denote.Signature.{Slot, plain}
use denote.Builtin.{RefOf}
use Rattle.std.proofs.alloc.Calls.{Al}
use Rattle.refusing_allocator.specs.contracts.Refusing as wrapper

abbrev pub args : Al → Args
args Z = bounded (a_type ∷ []) (Z.row, tt) (dcons Z.d (dcons Z.drops dnil))

abbrev pub self : Al → Slot 2
self Z = RefOf (0 ∷ []) tt (plain (λ _. wrapper.the_row (param 0 Z.row))) (λ _. tt)

abbrev pub Said : Ty → ℕ → ℕ → Type 0
Said τ n a = (capped (size τ) ≡ n) × (capped (align τ) ≡ a)
