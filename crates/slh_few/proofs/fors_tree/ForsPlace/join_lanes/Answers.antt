use Rattle.std.proofs.Common.{[], arith}
use Rattle.slh_params.specs.ParamSet.{params}
use Rattle.slh_lanes.specs.Lanes.{group}
use Rattle.slh_few.specs.Fors.{fors_tree}
use Rattle.slh_few.proofs.NodeLanes.{joined_lanes}
use Rattle.slh_few.proofs.fors_tree.ForsPlace.join_lanes.Goals as goal

pub returns : goal.returns
returns c =
    let t = c.args.self.now in
    let p = params c.args.lanes.now.set in
    joined_lanes ((fors_tree p [] c.args.lanes.now.pk_seed.now t.idx_tree t.idx_leaf t.tree_no).join c.args.z) p.n c.args.i
    c.args.left.now c.args.right.now c.even_lanes.result c.odd_lanes.result (group c.h.new.left 0)
    (λ j lane. c.h.ensures 0 j (omega arith) lane _ (c.lane_adrs-adrs.ensures j lane))
    c.even_lanes.ensures.low c.even_lanes.ensures.high c.odd_lanes.ensures.low c.odd_lanes.ensures.high
