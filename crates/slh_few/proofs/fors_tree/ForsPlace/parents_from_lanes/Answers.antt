use Rattle.std.proofs.Common.{◌≡◌, ◌+◌, ◌-◌, ◌*◌, ◌^◌, ◌<◌, ap, ap₂, ◌∙◌, arith}
use Rattle.slh_params.specs.Address.{address, FORS_TREE}
use Rattle.slh_params.specs.ParamSet.{params}
use Rattle.slh_hash.specs.Hash.{H}
use Rattle.slh_lanes.specs.Lanes.{group, value_at}
use Rattle.slh_few.specs.Chunks.{chunk}
use Rattle.slh_few.proofs.fors_tree.ForsPlace.parents_from_lanes.Goals as goal

pub returns-clause-parents : goal.returns-clause-parents
returns-clause-parents c = λ j d lt.
    let t = c.args.self.now in
    let p = params c.args.lanes.now.set in
    let pk = c.args.lanes.now.pk_seed.now in
    let own : j < c.args.count = omega (arith, lt, c.first_nodes.ensures.len) in
    let lane : j < 8 = omega (arith, own, c.requires.few) in
    let here : 2 * (c.args.first + j) + 0 ≡ 2 * (c.args.first + j) = omega arith in
    c.first_nodes.ensures.values j d lt ∙ ap (value_at (group c.h.new.left 0) j) c.n.ensures
    ∙ c.h.ensures 0 j (omega arith) lane _ (c.lane_adrs.ensures j lane)
    ∙ ap₂ (H p pk (address 0 t.idx_tree FORS_TREE t.idx_leaf c.args.z (t.tree_no * 2 ^ (p.a - c.args.z) + (c.args.first + j))))
    (c.children.ensures j own ∙ ap (chunk p.n c.args.below.now) here) (c.children-2.ensures j own)
