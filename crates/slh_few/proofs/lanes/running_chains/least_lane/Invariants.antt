use Rattle.std.proofs.Common.{◌≡◌, ◌⊎◌, ℕ, ◌+◌, ◌*◌, ◌<◌, ◌≤◌, slice_index}
use Rattle.slh_few.proofs.lanes.running_chains.least_lane.Given as goal

abbrev pub invariant-loop-j : goal.invariant-loop-j
invariant-loop-j l = record {
  least : (i : ℕ) → i < l.j → l.least ≤ 8 * slice_index l.numbers i + i;
  found : (l.least ≡ 4294967295) ⊎ ((i : ℕ) × (i < 8) × (l.least ≡ 8 * slice_index l.numbers i + i));
}
