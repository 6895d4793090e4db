use Rattle.std.proofs.Common.{arith}
use Rattle.std.proofs.lemmas.Simd.{shifts_fit_splat}
use Rattle.slh_lanes.proofs.NLanes.{with_splat}
use Rattle.slh_lanes.proofs.lanes.right_short.Goals as goal

pub returns : goal.returns
returns g c = with_splat g.row.N _ c.args.x c.args.bits c.fits-x.0

pub overflow_shr-result : goal.overflow_shr-result
overflow_shr-result g c = shifts_fit_splat 32 _ g.row.N c.args.bits (omega arith)
