use Rattle.std.proofs.Common.{ℕ, ◌<◌, slice_index_or}
use Rattle.slh_core.specs.EightSignatures.{IsOfSet}
use Rattle.slh_core.specs.declared.eight.SignedParts.{SignedParts}
use Rattle.slh_core.proofs.eight.are_of_set.Given as goal

abbrev pub invariant-loop-j : goal.invariant-loop-j
invariant-loop-j l = (i : ℕ) (x : SignedParts) → i < l.j → IsOfSet l.set (slice_index_or l.items i x)
