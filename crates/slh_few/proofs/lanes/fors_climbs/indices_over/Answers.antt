use Rattle.std.proofs.Common.{◌/◌, ◌^◌}
use Rattle.slh_few.proofs.RunningChains.{with_number}
use Rattle.slh_few.proofs.lanes.fors_climbs.indices_over.Goals as goal

pub returns : goal.returns
returns c = with_number (λ a k. a / 2 ^ k) c.args.leaves c.args.z c.fits-leaves.0
