use Rattle.std.proofs.Common.{w32, ◌-◌, arith}
use Rattle.std.proofs.lemmas.Simd.{shifts_fit_splat}
use Rattle.slh_lanes.proofs.NLanes.{rotated}
use Rattle.slh_lanes.proofs.lanes.rotate_short.Goals as goal

pub returns : goal.returns
returns g c = rotated w32 g.row.N c.args.bits c.args.x c.fits-x.0 (omega arith) (omega arith)

pub overflow_shr-result : goal.overflow_shr-result
overflow_shr-result g c = shifts_fit_splat 32 _ g.row.N c.args.bits (omega arith)

pub overflow_shl-result : goal.overflow_shl-result
overflow_shl-result g c = shifts_fit_splat 32 _ g.row.N (32 - c.args.bits) (omega arith)
