use Rattle.std.proofs.Common.{ℕ, ◌+◌, ◌*◌, ◌≤◌, ap, sym, refl, ◌∙◌, arith}
use Rattle.slh_params.specs.ParamSet.{params}
use Rattle.slh_tree.specs.Tree.{node}
use Rattle.slh_few.specs.Fors.{fors_tree}
use Rattle.slh_few.proofs.NodeLanes.{few_nodes, nodes_above, twice}
use Rattle.slh_few.proofs.fors_tree.ForsPlace.eight_nodes.Goals as goal

pub overflow_mul-i : goal.overflow_mul-i
overflow_mul-i c = omega (arith, few_nodes c.args.lanes.now.set c.args.z, c.requires.within)

pub sixteen_nodes-requires-clause-within : goal.sixteen_nodes-requires-clause-within
sixteen_nodes-requires-clause-within c =
    let low : 1 ≤ c.args.z = omega (arith, c.if-z-eq0.false) in
    omega (arith, twice (params c.args.lanes.now.set).a c.args.z low c.requires.height, c.requires.within)

pub returns-then-z-eq0 : goal.returns-then-z-eq0
unfolding node
returns-then-z-eq0 c = λ j lane.
    let own = c.args.self.now in
    let p = params c.args.lanes.now.set in
    let tree = fors_tree p c.args.sk_seed.now c.args.lanes.now.pk_seed.now own.idx_tree own.idx_leaf own.tree_no in
    c.leaf_lanes.ensures j lane ∙ ap (λ (z : ℕ). node tree z (c.args.i + j)) (sym c.if-z-eq0.true)

pub returns-else-z-eq0 : goal.returns-else-z-eq0
returns-else-z-eq0 c =
    let own = c.args.self.now in
    let p = params c.args.lanes.now.set in
    let tree = fors_tree p c.args.sk_seed.now c.args.lanes.now.pk_seed.now own.idx_tree own.idx_leaf own.tree_no in
    let low : 1 ≤ c.args.z = omega (arith, c.if-z-eq0.false) in
    nodes_above tree p.n c.args.z c.args.i (2 * c.args.i) _ _ c.join_lanes.result low refl
    c.sixteen_nodes.ensures.0 c.sixteen_nodes.ensures.1 c.join_lanes.ensures
