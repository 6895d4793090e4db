use Rattle.std.proofs.Common.{refl}
use Rattle.sha2.specs.Sha256.{digest_bytes}
use Rattle.slh_lanes.specs.Lanes.{value_at}
use Rattle.slh_lanes.proofs.Columns.{column_at}
use Rattle.slh_lanes.proofs.hmac_lanes.both_halves.Goals as goal

pub returns : goal.returns
unfolding value_at digest_bytes
returns c j lane =
    let x = c.args.low.now in
    let y = c.args.high.now in
    rw (column_at j x 0, column_at j x 1, column_at j x 2, column_at j x 3, column_at j x 4, column_at j x 5, column_at j x 6, column_at j x 7)
    (rw (column_at j y 0, column_at j y 1, column_at j y 2, column_at j y 3, column_at j y 4, column_at j y 5, column_at j y 6, column_at j y 7) refl)
