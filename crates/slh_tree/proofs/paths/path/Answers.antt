-- The first levels of the path are written.
use Rattle.std.proofs.Common.{length, arith}
use Rattle.slh_tree.proofs.Branch.{sibling_within}
use Rattle.slh_tree.proofs.PathBytes.{path_below-none, path_below-more, node_fits}
use Rattle.slh_tree.proofs.paths.path.Goals as goal

pub loop-level-init : goal.loop-level-init
loop-level-init g c = path_below-none (g.T.Climbs.tree c.args.tree.now) c.args.idx c.args.out.now

pub node-sibling-requires-clause-within : goal.node-sibling-requires-clause-within
node-sibling-requires-clause-within g c =
    sibling_within c.args.idx (g.T.Climbs.tree c.args.tree.now).height c.loop-level.level c.requires.index (omega (arith, c.height-level-end.ensures.value))

pub put_node-requires : goal.put_node-requires
put_node-requires g c =
    let t = g.T.Climbs.tree c.args.tree.now in
    node_fits t (g.met.T.Climbs.lawful c.args.tree.now) c.args.idx c.loop-level.level c.len.result (length c.loop-level.out) c.node-sibling.result.items c.node-sibling.ensures
    c.len.ensures.value (omega (arith, c.height-level-end.ensures.value)) (omega (arith, c.requires.length))

pub loop-level-preserved : goal.loop-level-preserved
loop-level-preserved g c =
    let t = g.T.Climbs.tree c.args.tree.now in
    path_below-more t (g.met.T.Climbs.lawful c.args.tree.now) c.args.idx c.loop-level.level c.len.result c.loop-level.out c.put_node.new.out c.node-sibling.result.items
    c.node-sibling.ensures c.len.ensures.value c.loop-level.invariant c.put_node.ensures.written
