-- The sixteen nodes of a height stand over thirty-two below them.
use Rattle.std.proofs.Common.{◌≡◌, ℕ, ◌+◌, ◌*◌, ◌≤◌, ap, sym, refl, ◌∙◌, arith}
use Rattle.slh_params.specs.ParamSet.{params}
use Rattle.slh_lanes.specs.Lanes.{group}
use Rattle.slh_tree.specs.Tree.{node}
use Rattle.slh_few.specs.Fors.{fors_tree}
use Rattle.slh_few.proofs.NodeLanes.{few_nodes, nodes_above, twice}
use Rattle.slh_few.proofs.fors_tree.ForsPlace.+sixteen_nodes.Goals as goal

pub overflow_mul-i-2 : goal.overflow_mul-i-2
overflow_mul-i-2 t c = omega (arith, few_nodes c.args.lanes.now.set c.args.z, c.requires.within)

pub overflow_add-i : goal.overflow_add-i
overflow_add-i t c = omega (arith, few_nodes c.args.lanes.now.set c.args.z, c.requires.within)

pub overflow_mul-i : goal.overflow_mul-i
overflow_mul-i t c = omega (arith, few_nodes c.args.lanes.now.set c.args.z, c.requires.within)

pub sixteen_nodes-nodes-requires : goal.sixteen_nodes-nodes-requires
sixteen_nodes-nodes-requires t c =
    let low : 1 ≤ c.args.z = omega (arith, c.if-z-eq0.false) in
    let below = twice (params c.args.lanes.now.set).a c.args.z low c.requires.height in
    (omega (arith, low, c.decreases), (c.requires.sk_seed, (c.requires.tree, (omega (arith, c.requires.height), omega (arith, below, c.requires.within)))))

pub sixteen_nodes-next-requires : goal.sixteen_nodes-next-requires
sixteen_nodes-next-requires t c =
    let low : 1 ≤ c.args.z = omega (arith, c.if-z-eq0.false) in
    let below = twice (params c.args.lanes.now.set).a c.args.z low c.requires.height in
    (omega (arith, low, c.decreases), (c.requires.sk_seed, (c.requires.tree, (omega (arith, c.requires.height), omega (arith, below, c.requires.within)))))

pub returns-then-z-eq0 : goal.returns-then-z-eq0
returns-then-z-eq0 t c =
    let own = c.args.self.now in
    let p = params c.args.lanes.now.set in
    let tree = fors_tree p c.args.sk_seed.now c.args.lanes.now.pk_seed.now own.idx_tree own.idx_leaf own.tree_no in (
      λ j lane. c.sixteen_leaves.ensures.0 j lane ∙ ap (λ (z : ℕ). node tree z (c.args.i + j)) (sym c.if-z-eq0.true),
      λ j lane. c.sixteen_leaves.ensures.1 j lane ∙ ap (λ (z : ℕ). node tree z (c.args.i + 8 + j)) (sym c.if-z-eq0.true),
    )

pub returns : goal.returns
returns t c =
    let own = c.args.self.now in
    let p = params c.args.lanes.now.set in
    let tree = fors_tree p c.args.sk_seed.now c.args.lanes.now.pk_seed.now own.idx_tree own.idx_leaf own.tree_no in
    let z : ℕ = c.args.z in
    let i : ℕ = c.args.i in
    let low : 1 ≤ z = omega (arith, c.if-z-eq0.false) in
    let next : 2 * i + 16 ≡ 2 * (i + 8) = omega arith in
    let made = c.join_sixteen.new.nodes in (
      nodes_above tree p.n z i (2 * i) _ _ (group made 0) low refl c.sixteen_nodes-nodes.ensures.0 c.sixteen_nodes-nodes.ensures.1 c.join_sixteen.ensures.first,
      nodes_above tree p.n z (i + 8) (2 * i + 16) _ _ (group made 1) low next
          c.sixteen_nodes-next.ensures.0 c.sixteen_nodes-next.ensures.1 c.join_sixteen.ensures.second,
    )
