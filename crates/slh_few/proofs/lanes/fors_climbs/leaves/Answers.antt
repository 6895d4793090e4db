-- The leaves are F of the secrets.
use Rattle.std.proofs.Common.{◌+◌, ◌<◌, slice_index, arith, ◌∙◌}
use Rattle.slh_params.specs.ParamSet.{params}
use Rattle.slh_few.proofs.ForsClimb.{leaf_given}
use Rattle.slh_few.proofs.lanes.fors_climbs.leaves.Goals as goal

pub returns-then-y-eq0-clause-x : goal.returns-then-y-eq0-clause-x
returns-then-y-eq0-clause-x c = λ indices leaves j low.
    let t = c.args.x.now in
    let lane : j < 8 = omega (arith, low, c.requires.x.0) in
    c.f.ensures 0 j (omega arith) lane _ (c.adrs.ensures j lane)
    ∙ leaf_given (params c.args.lanes.now.set) c.args.lanes.now.pk_seed.now indices c.args.sig.now t.first.idx_tree t.first.idx_leaf
    (t.first.tree_no + j) (slice_index t.leaves j) _ (leaves j low) (c.part_nodes.ensures j low)

pub returns-clause-x : goal.returns-clause-x
returns-clause-x c = λ indices leaves j low.
    let t = c.args.x.now in
    let lane : j < 8 = omega (arith, low, c.requires.x.0) in
    c.f-2.ensures 0 j (omega arith) lane _ (c.adrs-2.ensures j lane)
    ∙ leaf_given (params c.args.lanes.now.set) c.args.lanes.now.pk_seed.now indices c.args.sig.now t.first.idx_tree t.first.idx_leaf
    (t.first.tree_no + j) (slice_index t.leaves j) _ (leaves j low) (c.part_nodes.ensures j low)

pub returns-clause-y : goal.returns-clause-y
returns-clause-y c = λ indices leaves j low.
    let t = c.args.y.now in
    let lane : j < 8 = omega (arith, low, c.requires.y.0) in
    c.f-2.ensures 1 j (omega arith) lane _ (c.adrs-3.ensures j lane)
    ∙ leaf_given (params c.args.lanes.now.set) c.args.lanes.now.pk_seed.now indices c.args.sig.now t.first.idx_tree t.first.idx_leaf
    (t.first.tree_no + j) (slice_index t.leaves j) _ (leaves j low) (c.part_nodes-2.ensures j low)
