use Rattle.slh_lanes.proofs.NodeLengths.{n_whole}
use Rattle.slh_few.proofs.lanes.hypertrees.ends_at.Goals as goal

pub set_lane-requires-clause-whole : goal.set_lane-requires-clause-whole
set_lane-requires-clause-whole c = rw (c.chunk_at.ensures.len, c.n-n.ensures) (n_whole c.args.set)
