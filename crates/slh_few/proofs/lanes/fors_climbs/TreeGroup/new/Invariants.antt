use Rattle.std.proofs.Common.{◌≡◌, ℕ, ◌+◌, ◌*◌, ◌^◌, ◌<◌, length, slice_index}
use Rattle.slh_few.proofs.lanes.fors_climbs.TreeGroup.new.Given as goal

abbrev pub invariant-loop-j : goal.invariant-loop-j
invariant-loop-j l = record {
  len : length l.leaves ≡ 8;
  numbers : (i : ℕ) → i < l.j
      → slice_index l.leaves i ≡ (l.first.tree_no + i) * 2 ^ l.depth + slice_index l.indices (l.first.tree_no + i);
}
