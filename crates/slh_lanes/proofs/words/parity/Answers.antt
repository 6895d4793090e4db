use Rattle.slh_lanes.proofs.WordLanes.{parity_lanes}
use Rattle.slh_lanes.proofs.words.parity.Goals as goal

pub returns : goal.returns
returns c = parity_lanes 8 c.args.x c.fits-x.0
