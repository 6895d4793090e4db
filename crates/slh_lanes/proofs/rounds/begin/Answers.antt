use Rattle.std.proofs.Common.{sym}
use Rattle.slh_lanes.specs.Columns.{lane_column}
use Rattle.slh_lanes.proofs.rounds.begin.Goals as goal

pub returns : goal.returns
returns g c = λ j lane b e0 e1 e2 e3 e4.
    let h = lane_column g.W.Lanes.lane j c.args.state.now in
    c.first_step.ensures j lane b h e4 (c.first_four_steps-v.ensures j lane b h e0 e1 e2 e3 (sym (g.met.W.Lanes.begins h b)))
