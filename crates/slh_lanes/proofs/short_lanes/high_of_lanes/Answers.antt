use Rattle.std.proofs.Common.{arith}
use Rattle.std.proofs.lemmas.Simd.{shifts_fit_splat}
use Rattle.slh_lanes.proofs.WordLanes.{right_lanes}
use Rattle.slh_lanes.proofs.short_lanes.high_of_lanes.Goals as goal

pub returns : goal.returns
returns g c = right_lanes g.row.N 16 c.args.p c.fits-p.0

pub overflow_shr-result : goal.overflow_shr-result
overflow_shr-result g c = shifts_fit_splat 32 _ g.row.N 16 (omega arith)
