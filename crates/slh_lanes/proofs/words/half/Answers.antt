use Rattle.slh_lanes.proofs.WordLanes.{right_lanes}
use Rattle.slh_lanes.proofs.words.half.Goals as goal

pub returns : goal.returns
returns c = right_lanes 8 1 c.args.x c.fits-x.0
