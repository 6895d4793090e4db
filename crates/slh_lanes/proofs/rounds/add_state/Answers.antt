use Rattle.std.proofs.Common.{◌≡◌, length, arith, refl}
use Rattle.slh_lanes.proofs.Columns.{lane_column_at}
use Rattle.slh_lanes.proofs.rounds.add_state.Goals as goal

pub returns : goal.returns
returns g c j h =
    let lh : length c.args.h.now ≡ 8 = omega arith in
    let lv : length c.args.v.now ≡ 8 = omega arith in
    rw (
      c.sum.ensures j h,
      c.sum-2.ensures j h,
      c.sum-3.ensures j h,
      c.sum-4.ensures j h,
      c.sum-5.ensures j h,
      c.sum-6.ensures j h,
      c.sum-7.ensures j h,
      c.sum-8.ensures j h,
      lane_column_at g.W.Lanes.lane j c.args.h.now 0 c.index-h-0.result (omega arith),
      lane_column_at g.W.Lanes.lane j c.args.h.now 1 c.index-h-1.result (omega arith),
      lane_column_at g.W.Lanes.lane j c.args.h.now 2 c.index-h-2.result (omega arith),
      lane_column_at g.W.Lanes.lane j c.args.h.now 3 c.index-h-3.result (omega arith),
      lane_column_at g.W.Lanes.lane j c.args.h.now 4 c.index-h-4.result (omega arith),
      lane_column_at g.W.Lanes.lane j c.args.h.now 5 c.index-h-5.result (omega arith),
      lane_column_at g.W.Lanes.lane j c.args.h.now 6 c.index-h-6.result (omega arith),
      lane_column_at g.W.Lanes.lane j c.args.h.now 7 c.index-h-7.result (omega arith),
      lane_column_at g.W.Lanes.lane j c.args.v.now 0 c.index-v-0.result (omega arith),
      lane_column_at g.W.Lanes.lane j c.args.v.now 1 c.index-v-1.result (omega arith),
      lane_column_at g.W.Lanes.lane j c.args.v.now 2 c.index-v-2.result (omega arith),
      lane_column_at g.W.Lanes.lane j c.args.v.now 3 c.index-v-3.result (omega arith),
      lane_column_at g.W.Lanes.lane j c.args.v.now 4 c.index-v-4.result (omega arith),
      lane_column_at g.W.Lanes.lane j c.args.v.now 5 c.index-v-5.result (omega arith),
      lane_column_at g.W.Lanes.lane j c.args.v.now 6 c.index-v-6.result (omega arith),
      lane_column_at g.W.Lanes.lane j c.args.v.now 7 c.index-v-7.result (omega arith),
    ) refl
