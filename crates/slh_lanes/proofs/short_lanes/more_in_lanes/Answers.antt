use Rattle.sha2.specs.Sha256.{add32}
use Rattle.slh_lanes.proofs.NLanes.{with_splat}
use Rattle.slh_lanes.proofs.short_lanes.more_in_lanes.Goals as goal

pub returns : goal.returns
returns g c = with_splat g.row.N add32 c.args.words c.args.number c.fits-words.0
