use Rattle.slh_lanes.proofs.ChMaj.{maj_short}
use Rattle.slh_lanes.proofs.rounds.maj.Goals as goal

pub returns : goal.returns
returns g c j h =
    rw (c.xor-3.ensures j h, c.and.ensures j h, c.xor.ensures j h, c.xor-2.ensures j h)
    (maj_short (g.W.Lanes.lane c.args.x j) (g.W.Lanes.lane c.args.y j) (g.W.Lanes.lane c.args.z j))
