use Rattle.std.proofs.Common.{[], ◌+◌, arith}
use Rattle.slh_params.specs.ParamSet.{params}
use Rattle.slh_lanes.specs.Lanes.{group}
use Rattle.slh_few.specs.Fors.{fors_tree}
use Rattle.slh_few.proofs.NodeLanes.{few_nodes, joined_lanes}
use Rattle.slh_few.proofs.fors_tree.ForsPlace.join_sixteen.Goals as goal

pub overflow_add-i : goal.overflow_add-i
overflow_add-i c = omega (arith, few_nodes c.args.lanes.now.set c.args.z, c.requires.within)

pub returns : goal.returns
returns c =
    let t = c.args.self.now in
    let p = params c.args.lanes.now.set in
    let join = (fors_tree p [] c.args.lanes.now.pk_seed.now t.idx_tree t.idx_leaf t.tree_no).join c.args.z in
    let old = c.args.nodes.now in
    let next = c.args.next.now in
    let made = c.h.new.left in
    record {
      first = joined_lanes join p.n c.args.i (group old 0) (group old 1) c.even_lanes.result c.odd_lanes.result (group made 0)
          (λ j lane. c.h.ensures 0 j (omega arith) lane _ (c.lane_adrs.ensures j lane))
          c.even_lanes.ensures.low c.even_lanes.ensures.high c.odd_lanes.ensures.low c.odd_lanes.ensures.high;
      second = joined_lanes join p.n (c.args.i + 8) (group next 0) (group next 1) c.even_lanes-2.result c.odd_lanes-2.result (group made 1)
          (λ j lane. c.h.ensures 1 j (omega arith) lane _ (c.lane_adrs-2.ensures j lane))
          c.even_lanes-2.ensures.low c.even_lanes-2.ensures.high c.odd_lanes-2.ensures.low c.odd_lanes-2.ensures.high;
    }
