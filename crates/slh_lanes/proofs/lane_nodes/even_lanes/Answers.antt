use Rattle.std.proofs.Common.{◌*◌}
use Rattle.slh_lanes.specs.Lanes.{value_at}
use Rattle.slh_lanes.proofs.Values.{eight_words}
use Rattle.slh_lanes.proofs.lane_nodes.even_lanes.Goals as goal

pub returns : goal.returns
unfolding value_at
returns c = record {
  low = λ j n lane. eight_words c.args.left.now (2 * j) n _
      (c.evens.ensures.low j lane) (c.evens-2.ensures.low j lane) (c.evens-3.ensures.low j lane) (c.evens-4.ensures.low j lane) (c.evens-5.ensures.low j lane) (c.evens-6.ensures.low j lane) (c.evens-7.ensures.low j lane) (c.evens-8.ensures.low j lane);
  high = λ j n lane. eight_words c.args.right.now (2 * j) n _
      (c.evens.ensures.high j lane) (c.evens-2.ensures.high j lane) (c.evens-3.ensures.high j lane) (c.evens-4.ensures.high j lane) (c.evens-5.ensures.high j lane) (c.evens-6.ensures.high j lane) (c.evens-7.ensures.high j lane) (c.evens-8.ensures.high j lane);
}
