use Rattle.std.proofs.Common.{◌+◌, ◌*◌, ◌<◌, length, arith}
use Rattle.slh_params.specs.ParamSet.{params}
use Rattle.slh_lanes.proofs.NodeLengths.{n_whole}
use Rattle.slh_few.proofs.HeightNodes.{chunk_room}
use Rattle.slh_few.proofs.lanes.fors_nodes.children.Goals as goal

pub chunk_at-requires : goal.chunk_at-requires
chunk_at-requires c =
    let own : 2 * (c.args.first + c.loop-j.j) + c.args.side < 2 * (c.args.first + c.args.count) = omega (arith, c.requires.side, c.loop-j-test.true) in
    rw c.n.ensures (chunk_room (2 * (c.args.first + c.loop-j.j) + c.args.side) (2 * (c.args.first + c.args.count)) (params c.args.set).n (length c.args.below.now) own c.requires.below)

pub set_lane-requires-clause-whole : goal.set_lane-requires-clause-whole
set_lane-requires-clause-whole c = rw (c.chunk_at.ensures.len, c.n.ensures) (n_whole c.args.set)
