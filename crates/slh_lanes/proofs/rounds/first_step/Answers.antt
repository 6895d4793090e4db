use Rattle.slh_lanes.specs.Columns.{lane_column}
use Rattle.slh_lanes.proofs.rounds.first_step.Goals as goal

pub returns : goal.returns
returns g c = λ j lane b h word held.
    g.met.W.Lanes.first_rounds b h (lane_column g.W.Lanes.lane j c.args.v) c.args.t _ _ _ c.requires.first held (c.constant.ensures j lane) word (c.round.ensures j lane)
