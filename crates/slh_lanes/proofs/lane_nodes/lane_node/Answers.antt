use Rattle.std.proofs.Common.{take, ap, ◌∙◌}
use Rattle.sha2.specs.Sha256.{digest_bytes}
use Rattle.slh_lanes.specs.Columns.{column}
use Rattle.slh_lanes.specs.Lanes.{value_at}
use Rattle.slh_lanes.proofs.lane_nodes.lane_node.Goals as goal

pub returns-clause-value : goal.returns-clause-value
unfolding value_at
returns-clause-value c =
    c.node_of.ensures ∙ ap (take c.args.n) (c.store_lane.ensures ∙ ap (digest_bytes (column c.args.j c.args.nodes.now)) c.told-nodes)
