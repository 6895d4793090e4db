-- After each turn the nodes of one group more stand at their places.
use Rattle.std.proofs.Common.{◌≡◌, ℕ, ◌*◌, min, List, subst, arith}
use Rattle.slh_few.specs.Heights.{AreJoined}
use Rattle.slh_few.proofs.ChainLanes.{group_below, group_next}
use Rattle.slh_few.proofs.heights.put_height.Goals as goal

pub loop-turn-preserved : goal.loop-turn-preserved
loop-turn-preserved g c =
    let turn : ℕ = c.loop-turn.turn in
    let Joined : List ℕ → ℕ → Type 0 = λ bytes count. AreJoined (g.T.Climbs.tree c.args.tree.now) c.args.n c.args.z c.args.nodes.now count bytes in
    let below = group_below turn _ c.div_ceil-turn-end.result c.div_ceil-turn-end.ensures c.loop-turn-test.true in
    let next = group_next turn _ c.min.result below c.min.ensures in
    let here : min (8 * turn) _ ≡ 8 * turn = omega (arith, below) in
    subst (Joined c.put_parents.new.nodes) next (c.put_parents.ensures c.args.nodes.now (subst (Joined c.loop-turn.nodes) here c.loop-turn.invariant))
