use Rattle.std.proofs.Common.{refl}
use Rattle.sha2.specs.Sha256.{digest_bytes}
use Rattle.slh_lanes.specs.Lanes.{value_at}
use Rattle.slh_lanes.proofs.Columns.{column_at}
use Rattle.slh_lanes.proofs.lane_nodes.two_short.Goals as goal

pub returns : goal.returns
unfolding value_at digest_bytes
returns c j lane =
    let l = c.args.left.now in
    let r = c.args.right.now in
    rw (column_at j l 0, column_at j l 1, column_at j l 2, column_at j l 3, column_at j r 0, column_at j r 1, column_at j r 2, column_at j r 3) refl
