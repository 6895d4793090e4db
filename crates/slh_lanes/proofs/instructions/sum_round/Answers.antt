use Rattle.std.proofs.Common.{arith}
use Rattle.slh_lanes.proofs.instructions.sum_round.Goals as goal

pub returns : goal.returns
returns c = c.round.ensures 0 (omega arith)
