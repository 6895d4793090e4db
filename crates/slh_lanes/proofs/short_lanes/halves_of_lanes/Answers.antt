use Rattle.std.proofs.Common.{arith}
use Rattle.std.proofs.lemmas.Simd.{shifts_fit_splat}
use Rattle.slh_lanes.proofs.WordLanes.{halves_lanes}
use Rattle.slh_lanes.proofs.short_lanes.halves_of_lanes.Goals as goal

pub returns : goal.returns
returns g c = halves_lanes g.row.N c.args.p c.args.q c.fits-p.0 c.fits-q.0

pub overflow_shl-result : goal.overflow_shl-result
overflow_shl-result g c = shifts_fit_splat 32 _ g.row.N 16 (omega arith)

pub overflow_shr-result : goal.overflow_shr-result
overflow_shr-result g c = shifts_fit_splat 32 _ g.row.N 16 (omega arith)
