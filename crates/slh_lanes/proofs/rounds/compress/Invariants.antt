use Rattle.std.proofs.Common.{◌≡◌, ℕ, ◌<◌, ◌*◌, List, slice_index}
use Rattle.slh_lanes.specs.Columns.{lane_column}
use Rattle.slh_lanes.specs.Sha2.{AreAt}
use Rattle.slh_lanes.proofs.rounds.compress.Given as goal

abbrev pub invariant-schedule : goal.invariant-schedule
invariant-schedule g l = (j : ℕ) → j < g.W.Lanes.LANES → (b : List ℕ)
    → ((k : ℕ) → k < 16 → g.W.Lanes.word b k ≡ slice_index (lane_column g.W.Lanes.lane j l.block) k)
    → AreAt (g.W.Lanes.schedule b) (lane_column g.W.Lanes.lane j l.w) (g.W.Lanes.rounds (lane_column g.W.Lanes.lane j l.state) b) (lane_column g.W.Lanes.lane j l.v) (16 * l.turn)
