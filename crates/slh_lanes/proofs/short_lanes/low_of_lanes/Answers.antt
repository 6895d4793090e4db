use Rattle.std.proofs.Common.{w32, arith}
use Rattle.std.proofs.lemmas.Simd.{shifts_fit_splat}
use Rattle.slh_lanes.proofs.WordLanes.{left_lanes}
use Rattle.slh_lanes.proofs.short_lanes.low_of_lanes.Goals as goal

pub returns : goal.returns
returns g c = left_lanes g.row.N w32 16 c.args.p c.fits-p.0

pub overflow_shl-result : goal.overflow_shl-result
overflow_shl-result g c = shifts_fit_splat 32 _ g.row.N 16 (omega arith)
