use Rattle.std.proofs.Common.{◌≡◌, ◌/◌, ◌^◌, ◌<◌, length}
use Rattle.slh_params.specs.ParamSet.{params}
use Rattle.slh_tree.specs.Tree.{node}
use Rattle.slh_tree.specs.Record.{Gains}
use Rattle.slh_few.specs.Trees.{fors_nodes_of}
use Rattle.slh_few.proofs.fors_tree.ForsNodes.node_over_own_leaf.Given as goal

abbrev pub invariant-loop-height : goal.invariant-loop-height
invariant-loop-height l = record {
  climbed : l.node.items ≡ node (fors_nodes_of l.self) l.height (l.leaf / 2 ^ l.height);
  width : length l.node.items ≡ (params l.self.signer.now.public.set).n;
  gained : Gains (fors_nodes_of l.self) (λ j. j < l.height) l.initial.rec l.rec;
}
