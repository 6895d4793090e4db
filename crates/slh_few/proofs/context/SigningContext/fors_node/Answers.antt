-- All nodes of the tree have n bytes.
use Rattle.std.proofs.Common.{length, ap, ◌∙◌, arith}
use Rattle.slh_params.proofs.Bounds.{k_high}
use Rattle.slh_tree.proofs.Authentic.{node_width}
use Rattle.slh_few.specs.Trees.{fors_nodes_of, fors_tree-lawful}
use Rattle.slh_few.proofs.context.SigningContext.fors_node.Goals as goal

pub invariant_of-node : goal.invariant_of-node
invariant_of-node c = record { small = omega (arith, c.requires.tree, k_high c.args.self.now.public.set) }

pub returns-clause-len : goal.returns-clause-len
unfolding fors_nodes_of
returns-clause-len c = ap length c.node.ensures ∙ node_width _ (fors_tree-lawful c.args.self.now.public.set _ _ _ _ _) _ _
