use Rattle.std.proofs.Common.{◌≡◌, ◌%◌, ◌+◌, length, arith, refl}
use Rattle.slh_lanes.proofs.Columns.{lane_column_at, lane_column_set}
use Rattle.slh_lanes.proofs.rounds.next_word.Goals as goal

pub returns : goal.returns
returns g c =
    let p = c.args.place in
    let w = c.args.w.now in
    let long : length c.args.w.now ≡ 16 = omega arith in
    let at : p % 16 ≡ p = omega arith in
    record {
      value = λ j h.
          rw (
            at,
            c.sum-word.ensures j h,
            c.sum-w2.ensures j h,
            c.sum-w1.ensures j h,
            c.small_sigma1.ensures j h,
            c.small_sigma0.ensures j h,
            lane_column_at g.W.Lanes.lane j w ((p + 14) % 16) c.index-w-place.result (omega arith),
            lane_column_at g.W.Lanes.lane j w ((p + 9) % 16) c.index-w-place-2.result (omega arith),
            lane_column_at g.W.Lanes.lane j w ((p + 1) % 16) c.index-w-place-3.result (omega arith),
            lane_column_at g.W.Lanes.lane j w p c.index-w-place-4.result (omega arith),
          ) refl;
      window = λ j h. lane_column_set g.W.Lanes.lane j w p c.sum-word.result;
    }
