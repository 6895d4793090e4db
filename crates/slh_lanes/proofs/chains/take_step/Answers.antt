use Rattle.std.proofs.Common.{◌≡◌, length, arith, ◌∙◌}
use Rattle.std.proofs.lemmas.List.{length-map}
use Rattle.slh_lanes.specs.Columns.{lane_column}
use Rattle.slh_lanes.proofs.Columns.{lane_column_at}
use Rattle.slh_lanes.proofs.Lanes8.{listed_8}
use Rattle.slh_lanes.proofs.chains.take_step.Goals as goal

pub returns-clause-taken : goal.returns-clause-taken
returns-clause-taken g c j lane le =
    let of = g.W.Lanes.lane in
    let at = c.splat-at.ensures j lane in
    let x = c.args.next.now in
    let long : length x ≡ 8 = omega arith in
    rw (
      c.pick.ensures.below j lane (rw at le),
      c.pick-2.ensures.below j lane (rw at le),
      c.pick-3.ensures.below j lane (rw at le),
      c.pick-4.ensures.below j lane (rw at le),
      c.pick-5.ensures.below j lane (rw at le),
      c.pick-6.ensures.below j lane (rw at le),
      c.pick-7.ensures.below j lane (rw at le),
      c.pick-8.ensures.below j lane (rw at le),
    )
    (rw (
      lane_column_at of j x 0 c.index-next-0.result (omega arith),
      lane_column_at of j x 1 c.index-next-1.result (omega arith),
      lane_column_at of j x 2 c.index-next-2.result (omega arith),
      lane_column_at of j x 3 c.index-next-3.result (omega arith),
      lane_column_at of j x 4 c.index-next-4.result (omega arith),
      lane_column_at of j x 5 c.index-next-5.result (omega arith),
      lane_column_at of j x 6 c.index-next-6.result (omega arith),
      lane_column_at of j x 7 c.index-next-7.result (omega arith),
    ) at (listed_8 (lane_column of j x) (length-map _ _ ∙ long)))

pub returns-clause-kept : goal.returns-clause-kept
returns-clause-kept g c j lane le =
    let of = g.W.Lanes.lane in
    let at = c.splat-at.ensures j lane in
    let x = c.args.x.now in
    let long : length x ≡ 8 = omega arith in
    rw (
      c.pick.ensures.others j lane (rw at le),
      c.pick-2.ensures.others j lane (rw at le),
      c.pick-3.ensures.others j lane (rw at le),
      c.pick-4.ensures.others j lane (rw at le),
      c.pick-5.ensures.others j lane (rw at le),
      c.pick-6.ensures.others j lane (rw at le),
      c.pick-7.ensures.others j lane (rw at le),
      c.pick-8.ensures.others j lane (rw at le),
    )
    (rw (
      lane_column_at of j x 0 c.index-x-0.result (omega arith),
      lane_column_at of j x 1 c.index-x-1.result (omega arith),
      lane_column_at of j x 2 c.index-x-2.result (omega arith),
      lane_column_at of j x 3 c.index-x-3.result (omega arith),
      lane_column_at of j x 4 c.index-x-4.result (omega arith),
      lane_column_at of j x 5 c.index-x-5.result (omega arith),
      lane_column_at of j x 6 c.index-x-6.result (omega arith),
      lane_column_at of j x 7 c.index-x-7.result (omega arith),
    ) at (listed_8 (lane_column of j x) (length-map _ _ ∙ long)))
