use Rattle.std.proofs.Common.{ℕ, ◌<◌, ◌^◌, slice_index}
use Rattle.slh_lanes.specs.Columns.{lane_column}
use Rattle.slh_lanes.proofs.short_lanes.tell_all.Given as goal

abbrev pub invariant-told : goal.invariant-told
invariant-told g l = (j : ℕ) → j < g.W.Lanes.LANES → (k : ℕ) → k < l.k → slice_index (lane_column g.W.Lanes.lane j l.vectors) k < 2 ^ 32
