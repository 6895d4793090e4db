use Rattle.std.proofs.Common.{◌≡◌, length, arith, refl}
use Rattle.slh_lanes.proofs.Columns.{lane_column_at}
use Rattle.slh_lanes.proofs.rounds.round.Goals as goal

pub returns : goal.returns
returns g c j h =
    let l : length c.args.v ≡ 8 = omega arith in
    rw (
      c.sum.ensures j h,
      c.sum-2.ensures j h,
      c.sum-temp1.ensures j h,
      c.sum-h3.ensures j h,
      c.sum-h2.ensures j h,
      c.sum-h1.ensures j h,
      c.sum-temp2.ensures j h,
      c.big_sigma1.ensures j h,
      c.ch.ensures j h,
      c.big_sigma0.ensures j h,
      c.maj.ensures j h,
      lane_column_at g.W.Lanes.lane j c.args.v 0 c.index-v-0.result (omega arith),
      lane_column_at g.W.Lanes.lane j c.args.v 1 c.index-v-1.result (omega arith),
      lane_column_at g.W.Lanes.lane j c.args.v 2 c.index-v-2.result (omega arith),
      lane_column_at g.W.Lanes.lane j c.args.v 3 c.index-v-3.result (omega arith),
      lane_column_at g.W.Lanes.lane j c.args.v 4 c.index-v-4.result (omega arith),
      lane_column_at g.W.Lanes.lane j c.args.v 5 c.index-v-5.result (omega arith),
      lane_column_at g.W.Lanes.lane j c.args.v 6 c.index-v-6.result (omega arith),
      lane_column_at g.W.Lanes.lane j c.args.v 7 c.index-v-7.result (omega arith),
    ) refl
