use Rattle.std.proofs.Common.{length, ap, ◌∙◌}
use Rattle.slh_params.specs.ParamSet.{params}
use Rattle.slh_params.specs.declared.param_set.ParamSet.{ParamSet}
use Rattle.slh_subtrees.specs.SigningTrees.{source_of}
use Rattle.slh_subtrees.proofs.TreeLaw.{length-tree_node}
use Rattle.slh_jobs.proofs.signing.Signing.put_tree_answer.Goals as goal

pub put_front-requires-clause-node : goal.put_front-requires-clause-node
put_front-requires-clause-node c =
    ap length c.put_own-node.ensures.node ∙ length-tree_node (source_of c.args.self.now.trees) c.args.tree _ _
    ∙ ap (λ (set : ParamSet). (params set).n) c.args.self.now.tree_set
