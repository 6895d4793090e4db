use Rattle.std.proofs.Common.{◌≡◌, ℕ, ◌<◌, length, slice_index_or}
use Rattle.arrayvec.specs.ArrayVec.{ArrayVec}
use Rattle.slh_few.specs.HtSignatures.{top_root}
use Rattle.slh_few.specs.declared.hypertree.HtSignature.{HtSignature}
use Rattle.slh_few.proofs.hypertree.roots_in_turn.Given as goal

abbrev pub invariant-loop-j : goal.invariant-loop-j
invariant-loop-j l = record {
  len : length l.roots.items ≡ l.j;
  roots : (i : ℕ) (x : HtSignature) (d : ArrayVec ℕ) → i < l.j
      → (slice_index_or l.roots.items i d).items ≡ top_root l.fn.set (slice_index_or l.signed i x);
}
