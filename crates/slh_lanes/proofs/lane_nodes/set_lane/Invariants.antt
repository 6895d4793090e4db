use Rattle.std.proofs.Common.{◌≡◌, ◌≢◌, ℕ, ◌<◌, ◌≤◌, ◌*◌, length, slice_index}
use Rattle.sha2.specs.Sha256.{word_at}
use Rattle.slh_lanes.specs.Columns.{column}
use Rattle.slh_lanes.proofs.lane_nodes.set_lane.Given as goal

abbrev pub invariant-words : goal.invariant-words
invariant-words l = record {
  long : length l.nodes ≡ 8;
  set : (i : ℕ) → i < l.k → slice_index (column l.j l.nodes) i ≡ word_at l.value (4 * i);
  behind : (i : ℕ) → l.k ≤ i → slice_index (column l.j l.nodes) i ≡ slice_index (column l.j l.initial.nodes) i;
  others : (i : ℕ) → i ≢ l.j → column i l.nodes ≡ column i l.initial.nodes;
}
