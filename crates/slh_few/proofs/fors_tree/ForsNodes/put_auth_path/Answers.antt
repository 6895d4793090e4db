-- The first nodes of the path are written.
use Rattle.std.proofs.Common.{length, arith}
use Rattle.slh_params.specs.ParamSet.{params}
use Rattle.slh_params.proofs.Bounds.{a_high}
use Rattle.slh_tree.proofs.Branch.{sibling_within}
use Rattle.slh_tree.proofs.PathBytes.{path_below-none, path_below-more, node_fits}
use Rattle.slh_few.specs.Trees.{fors_nodes_of, fors_nodes-lawful}
use Rattle.slh_few.proofs.fors_tree.ForsNodes.put_auth_path.Goals as goal

pub loop-z-init : goal.loop-z-init
unfolding fors_nodes_of
loop-z-init c = path_below-none (fors_nodes_of c.args.self.now) c.args.i c.args.out.now

pub node-node-requires-clause-within : goal.node-node-requires-clause-within
node-node-requires-clause-within c =
    sibling_within c.args.i (params c.args.self.now.signer.now.public.set).a c.loop-z.z c.requires.index (omega (arith, c.a-z-end.ensures))

pub put_node-requires : goal.put_node-requires
unfolding fors_nodes_of
put_node-requires c =
    let t = fors_nodes_of c.args.self.now in
    node_fits t (fors_nodes-lawful c.args.self.now) c.args.i c.loop-z.z c.len.result (length c.loop-z.out) c.node-node.result.items c.node-node.ensures
    c.len.ensures.value (omega (arith, c.a-z-end.ensures)) (omega (arith, c.requires.length))

pub loop-z-preserved : goal.loop-z-preserved
unfolding fors_nodes_of
loop-z-preserved c =
    let t = fors_nodes_of c.args.self.now in
    path_below-more t (fors_nodes-lawful c.args.self.now) c.args.i c.loop-z.z c.len.result c.loop-z.out c.put_node.new.out c.node-node.result.items
    c.node-node.ensures c.len.ensures.value c.loop-z.invariant c.put_node.ensures.written

pub overflow_shr-i : goal.overflow_shr-i
overflow_shr-i c = omega (arith, a_high c.args.self.now.signer.now.public.set, c.a-z-end.ensures)
