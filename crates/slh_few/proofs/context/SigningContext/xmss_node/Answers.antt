-- All nodes of the tree have n bytes.
use Rattle.std.proofs.Common.{length, ap, ◌∙◌}
use Rattle.slh_tree.specs.Tree.{MerkleTree, node}
use Rattle.slh_tree.proofs.Authentic.{node_width}
use Rattle.slh_few.specs.Trees.{xmss_tree-lawful}
use Rattle.slh_few.proofs.context.SigningContext.xmss_node.Goals as goal

pub returns-clause-len : goal.returns-clause-len
returns-clause-len c =
    ap length (c.node.ensures ∙ ap (λ (t : MerkleTree). node t c.args.z c.args.i) c.xmss_nodes.ensures)
    ∙ node_width _ (xmss_tree-lawful c.args.self.now.public.set _ _ _ _) _ _
