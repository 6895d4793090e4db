-- The choice takes the value where the word is 1, and so in lane j alone.
use Rattle.std.proofs.Common.{ℕ, length, ◌∙◌, arith}
use Rattle.slh_lanes.proofs.Columns.{splat_lane}
use Rattle.slh_few.proofs.lanes.running_chains.with_node.Goals as goal

pub returns-clause-set : goal.returns-clause-set
returns-clause-set c =
    let j : ℕ = c.args.j in
    c.pick_nodes.ensures.below j (length c.args.value.now) c.requires.lane (omega (arith, splat_lane 0 j c.requires.lane, c.with_word.ensures.set))
    ∙ c.node_lanes.ensures.value j c.requires.lane

pub returns-clause-others : goal.returns-clause-others
returns-clause-others c = λ i n lane other.
    c.pick_nodes.ensures.others i n lane (omega (arith, splat_lane 0 i lane, c.with_word.ensures.others i lane other))
