use Rattle.sha2.specs.Sha256.{add32}
use Rattle.slh_lanes.proofs.NLanes.{both}
use Rattle.slh_lanes.proofs.words.add.Goals as goal

pub returns : goal.returns
returns c = both 8 add32 c.args.x c.args.y c.fits-x.0 c.fits-y.0
