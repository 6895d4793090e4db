use Rattle.std.proofs.Common.{◌+◌, ◌*◌}
use Rattle.slh_lanes.specs.Lanes.{value_at}
use Rattle.slh_lanes.proofs.Values.{eight_words}
use Rattle.slh_lanes.proofs.lane_nodes.odd_lanes.Goals as goal

pub returns : goal.returns
unfolding value_at
returns c = record {
  low = λ j n lane. eight_words c.args.left.now (2 * j + 1) n _
      (c.odds.ensures.low j lane) (c.odds-2.ensures.low j lane) (c.odds-3.ensures.low j lane) (c.odds-4.ensures.low j lane) (c.odds-5.ensures.low j lane) (c.odds-6.ensures.low j lane) (c.odds-7.ensures.low j lane) (c.odds-8.ensures.low j lane);
  high = λ j n lane. eight_words c.args.right.now (2 * j + 1) n _
      (c.odds.ensures.high j lane) (c.odds-2.ensures.high j lane) (c.odds-3.ensures.high j lane) (c.odds-4.ensures.high j lane) (c.odds-5.ensures.high j lane) (c.odds-6.ensures.high j lane) (c.odds-7.ensures.high j lane) (c.odds-8.ensures.high j lane);
}
