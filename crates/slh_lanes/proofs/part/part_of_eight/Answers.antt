use Rattle.std.proofs.Common.{◌≡◌, ◌+◌, length, arith, ◌∙◌}
use Rattle.std.proofs.lemmas.List.{length-map}
use Rattle.slh_lanes.specs.Columns.{lane_column}
use Rattle.slh_lanes.proofs.Columns.{lane_column_at}
use Rattle.slh_lanes.proofs.Lanes8.{listed_8}
use Rattle.slh_lanes.proofs.part.part_of_eight.Goals as goal

pub returns : goal.returns
returns g c j h =
    let lane = g.G.Lanes.lane in
    let i = c.args.first + j in
    let x = c.args.vectors.now in
    let long : length x ≡ 8 = omega arith in
    rw (
      c.part.ensures j h,
      c.part-2.ensures j h,
      c.part-3.ensures j h,
      c.part-4.ensures j h,
      c.part-5.ensures j h,
      c.part-6.ensures j h,
      c.part-7.ensures j h,
      c.part-8.ensures j h,
    )
    (rw (
      lane_column_at lane i x 0 c.index-vectors-0.result (omega arith),
      lane_column_at lane i x 1 c.index-vectors-1.result (omega arith),
      lane_column_at lane i x 2 c.index-vectors-2.result (omega arith),
      lane_column_at lane i x 3 c.index-vectors-3.result (omega arith),
      lane_column_at lane i x 4 c.index-vectors-4.result (omega arith),
      lane_column_at lane i x 5 c.index-vectors-5.result (omega arith),
      lane_column_at lane i x 6 c.index-vectors-6.result (omega arith),
      lane_column_at lane i x 7 c.index-vectors-7.result (omega arith),
    ) at (listed_8 (lane_column lane i x) (length-map _ _ ∙ long)))
