use Rattle.std.proofs.Common.{◌≡◌, length, arith, ◌∙◌}
use Rattle.std.proofs.lemmas.List.{length-map}
use Rattle.slh_lanes.specs.Columns.{lane_column}
use Rattle.slh_lanes.proofs.Columns.{lane_column_at}
use Rattle.slh_lanes.proofs.Lanes8.{listed_6}
use Rattle.slh_lanes.proofs.part.with_six.Goals as goal

pub returns-clause-part : goal.returns-clause-part
returns-clause-part g c j h =
    let lane = g.W.Lanes.lane in
    let x = c.args.own.now in
    let long : length x ≡ 6 = omega arith in
    rw (
      c.put.ensures.put j h,
      c.put-2.ensures.put j h,
      c.put-3.ensures.put j h,
      c.put-4.ensures.put j h,
      c.put-5.ensures.put j h,
      c.put-6.ensures.put j h,
    )
    (rw (
      lane_column_at lane j x 0 c.index-own-0.result (omega arith),
      lane_column_at lane j x 1 c.index-own-1.result (omega arith),
      lane_column_at lane j x 2 c.index-own-2.result (omega arith),
      lane_column_at lane j x 3 c.index-own-3.result (omega arith),
      lane_column_at lane j x 4 c.index-own-4.result (omega arith),
      lane_column_at lane j x 5 c.index-own-5.result (omega arith),
    ) at (listed_6 (lane_column lane j x) (length-map _ _ ∙ long)))

pub returns-clause-others : goal.returns-clause-others
returns-clause-others g c i other =
    let lane = g.G.Lanes.lane in
    let x = c.args.vectors.now in
    let long : length x ≡ 6 = omega arith in
    rw (
      c.put.ensures.others i other,
      c.put-2.ensures.others i other,
      c.put-3.ensures.others i other,
      c.put-4.ensures.others i other,
      c.put-5.ensures.others i other,
      c.put-6.ensures.others i other,
    )
    (rw (
      lane_column_at lane i x 0 c.index-vectors-0.result (omega arith),
      lane_column_at lane i x 1 c.index-vectors-1.result (omega arith),
      lane_column_at lane i x 2 c.index-vectors-2.result (omega arith),
      lane_column_at lane i x 3 c.index-vectors-3.result (omega arith),
      lane_column_at lane i x 4 c.index-vectors-4.result (omega arith),
      lane_column_at lane i x 5 c.index-vectors-5.result (omega arith),
    ) at (listed_6 (lane_column lane i x) (length-map _ _ ∙ long)))
