use Rattle.slh_lanes.specs.Lanes.{value_at}
use Rattle.slh_lanes.proofs.Values.{eight_words}
use Rattle.slh_lanes.proofs.lane_nodes.pick_nodes.Goals as goal

pub returns : goal.returns
unfolding value_at
returns c = record {
  below = λ j n lane lt. eight_words c.args.x.now j n _
      (c.pick.ensures.below j lane lt) (c.pick-2.ensures.below j lane lt) (c.pick-3.ensures.below j lane lt) (c.pick-4.ensures.below j lane lt)
      (c.pick-5.ensures.below j lane lt) (c.pick-6.ensures.below j lane lt) (c.pick-7.ensures.below j lane lt) (c.pick-8.ensures.below j lane lt);
  others = λ j n lane le. eight_words c.args.y.now j n _
      (c.pick.ensures.others j lane le) (c.pick-2.ensures.others j lane le) (c.pick-3.ensures.others j lane le) (c.pick-4.ensures.others j lane le)
      (c.pick-5.ensures.others j lane le) (c.pick-6.ensures.others j lane le) (c.pick-7.ensures.others j lane le) (c.pick-8.ensures.others j lane le);
}
