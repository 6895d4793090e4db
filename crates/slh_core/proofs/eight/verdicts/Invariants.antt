use Rattle.std.proofs.Common.{◌≡◌, ◌↔◌, ℕ, ◌<◌, Bool, IsTrue, length, slice_index_or}
use Rattle.arrayvec.specs.ArrayVec.{ArrayVec}
use Rattle.slh_core.specs.Keys.{pk_root}
use Rattle.slh_core.specs.declared.eight.SignedParts.{SignedParts}
use Rattle.slh_core.proofs.eight.verdicts.Given as goal

abbrev pub invariant-loop-j : goal.invariant-loop-j
invariant-loop-j l = record {
  count : length l.valid ≡ 8;
  each : (i : ℕ) (valid : Bool) (item : SignedParts) (d : ArrayVec ℕ) → i < l.j
      → IsTrue (slice_index_or l.valid i valid)
      ↔ ((slice_index_or l.roots.items i d).items ≡ pk_root (slice_index_or l.items i item).pk.now);
}
