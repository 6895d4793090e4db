use Rattle.slh_lanes.proofs.ChMaj.{ch_short}
use Rattle.slh_lanes.proofs.rounds.ch.Goals as goal

pub returns : goal.returns
returns g c j h =
    rw (c.xor-2.ensures j h, c.and.ensures j h, c.xor.ensures j h)
    (ch_short g.W.Lanes.WIDTH _ _ _ (c.tell.ensures j h) (c.tell-2.ensures j h) (c.tell-3.ensures j h))
