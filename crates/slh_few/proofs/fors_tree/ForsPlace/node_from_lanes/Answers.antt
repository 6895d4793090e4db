-- Eight nodes are joined to four, these to two and these to one.
use Rattle.std.proofs.Common.{◌≡◌, ℕ, ◌+◌, ◌-◌, ◌*◌, ◌^◌, ◌<◌, ◌≤◌, ap, refl, ◌∙◌, arith}
use Rattle.slh_params.specs.ParamSet.{params}
use Rattle.slh_lanes.specs.Lanes.{value_at}
use Rattle.slh_tree.specs.Tree.{node}
use Rattle.slh_few.specs.Fors.{fors_tree}
use Rattle.slh_few.proofs.NodeLanes.{few_nodes, joined, twice}
use Rattle.slh_few.proofs.fors_tree.ForsPlace.node_from_lanes.Goals as goal

-- two and three heights down
four_times : (a z : ℕ) → 2 ≤ z → z ≤ a → 2 ^ (a - (z - 2)) ≡ 4 * 2 ^ (a - z)
four_times a z low high =
    let e : z - 2 ≡ z - 1 - 1 = omega arith in
    let two = twice a (z - 1) (omega arith) (omega arith) in
    ap (λ (k : ℕ). 2 ^ (a - k)) e ∙ two ∙ omega (arith, twice a z (omega arith) high)

eight_times : (a z : ℕ) → 3 ≤ z → z ≤ a → 2 ^ (a - (z - 3)) ≡ 8 * 2 ^ (a - z)
eight_times a z low high =
    let e : z - 3 ≡ z - 2 - 1 = omega arith in
    let two = twice a (z - 2) (omega arith) (omega arith) in
    ap (λ (k : ℕ). 2 ^ (a - k)) e ∙ two ∙ omega (arith, four_times a z (omega arith) high)

pub overflow_mul-i : goal.overflow_mul-i
overflow_mul-i c = omega (arith, few_nodes c.args.lanes.now.set c.args.z, c.requires.index)

pub eight_nodes-eight-requires-clause-within : goal.eight_nodes-eight-requires-clause-within
eight_nodes-eight-requires-clause-within c =
    omega (arith, eight_times (params c.args.lanes.now.set).a c.args.z c.requires.low c.requires.height, c.requires.index)

pub overflow_mul-i-2 : goal.overflow_mul-i-2
overflow_mul-i-2 c = omega (arith, few_nodes c.args.lanes.now.set c.args.z, c.requires.index)

pub join_lanes-four-requires-clause-index : goal.join_lanes-four-requires-clause-index
join_lanes-four-requires-clause-index c =
    let low : 2 ≤ c.args.z = omega (arith, c.requires.low) in
    omega (arith, four_times (params c.args.lanes.now.set).a c.args.z low c.requires.height, c.requires.index)

pub overflow_mul-i-3 : goal.overflow_mul-i-3
overflow_mul-i-3 c = omega (arith, few_nodes c.args.lanes.now.set c.args.z, c.requires.index)

pub join_lanes-two-requires-clause-index : goal.join_lanes-two-requires-clause-index
join_lanes-two-requires-clause-index c =
    let low : 1 ≤ c.args.z = omega (arith, c.requires.low) in
    omega (arith, twice (params c.args.lanes.now.set).a c.args.z low c.requires.height, c.requires.index)

pub returns : goal.returns
returns c =
    let own = c.args.self.now in
    let p = params c.args.lanes.now.set in
    let tree = fors_tree p c.args.sk_seed.now c.args.lanes.now.pk_seed.now own.idx_tree own.idx_leaf own.tree_no in
    let z : ℕ = c.args.z in
    let i : ℕ = c.args.i in
    let eight = c.eight_nodes-eight.ensures in
    let four : (j : ℕ) → j < 4 → value_at c.join_lanes-four.result j p.n ≡ node tree (z - 2) (4 * i + j) = λ j low.
    let below : z - 3 ≡ z - 2 - 1 = omega (arith, c.requires.low) in
    let at : 8 * i + 2 * j ≡ 2 * (4 * i + j) = omega arith in
    let next : 8 * i + (2 * j + 1) ≡ 8 * i + 2 * j + 1 = omega arith in
    c.join_lanes-four.ensures.low j low
    ∙ joined tree (z - 2) (z - 3) (4 * i + j) (8 * i + 2 * j) _ _ (omega (arith, c.requires.low)) below at
    (eight (2 * j) (omega arith)) (eight (2 * j + 1) (omega arith) ∙ ap (node tree (z - 3)) next) in
    let two : (j : ℕ) → j < 2 → value_at c.join_lanes-two.result j p.n ≡ node tree (z - 1) (2 * i + j) = λ j low.
    let below : z - 2 ≡ z - 1 - 1 = omega (arith, c.requires.low) in
    let at : 4 * i + 2 * j ≡ 2 * (2 * i + j) = omega arith in
    let next : 4 * i + (2 * j + 1) ≡ 4 * i + 2 * j + 1 = omega arith in
    c.join_lanes-two.ensures.low j (omega arith)
    ∙ joined tree (z - 1) (z - 2) (2 * i + j) (4 * i + 2 * j) _ _ (omega (arith, c.requires.low)) below at
    (four (2 * j) (omega arith)) (four (2 * j + 1) (omega arith) ∙ ap (node tree (z - 2)) next) in
    let at : 2 * i + 0 ≡ 2 * i = omega arith in
    let here : i + 0 ≡ i = omega arith in
    let left : value_at c.join_lanes-two.result (2 * 0) p.n ≡ node tree (z - 1) (2 * i) = two 0 (omega arith) ∙ ap (node tree (z - 1)) at in
    c.lane_node.ensures.value ∙ ap (value_at c.join_lanes-one.result 0) c.n.ensures
    ∙ c.join_lanes-one.ensures.low 0 (omega arith)
    ∙ ap (λ (k : ℕ). tree.join z k (value_at c.join_lanes-two.result 0 p.n) (value_at c.join_lanes-two.result 1 p.n)) here
    ∙ joined tree z (z - 1) i (2 * i) _ _ (omega (arith, c.requires.low)) refl refl left (two 1 (omega arith))
