use Rattle.std.proofs.Common.{◌≡◌, ◌⊎◌, ℕ, ◌+◌, ◌<◌, ◌≤◌, length, slice_index}
use Rattle.slh_lanes.proofs.part.with_long_part.Given as goal

abbrev pub invariant-lanes : goal.invariant-lanes
invariant-lanes g l = record {
  len : length l.words ≡ g.row.M;
  put : (i : ℕ) → i < l.j → slice_index l.words (l.first + i) ≡ slice_index l.own i;
  others : (i : ℕ) → (i < l.first) ⊎ (l.first + l.j ≤ i) → slice_index l.words i ≡ slice_index l.initial.words i;
}
