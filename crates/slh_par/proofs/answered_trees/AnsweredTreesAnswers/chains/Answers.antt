use Rattle.std.proofs.Common.{length, ap, ◌∙◌, rules}
use Rattle.std.proofs.Math.Logic.{∥∥₁_elim}
use Rattle.std.proofs.Props.{props}
use Rattle.slh_params.specs.ParamSet.{params}
use Rattle.slh_params.proofs.Bounds.{n_high}
use Rattle.slh_few.specs.Hypertree.{layer_place}
use Rattle.slh_few.proofs.KeyCheckpoints.{length-key_checkpoints}
use Rattle.slh_subtrees.specs.SigningTrees.{source_of}
use Rattle.slh_par.proofs.answered_trees.AnsweredTreesAnswers.chains.Goals as goal

pub returns-clause-value : goal.returns-clause-value
returns-clause-value g c =
    ∥∥₁_elim c.args.self.now.all_chains (hlevel props) (λ all. let own = all.each c.args.layer c.index.result.now (search rules) in search rules)

pub returns-clause-len : goal.returns-clause-len
returns-clause-len g c =
    let s = source_of c.args.self.now.trees.now in
    let at = layer_place (params s.set) s.idx_tree s.idx_leaf c.args.layer in
    ap length (returns-clause-value g c) ∙ length-key_checkpoints (params s.set) s.sk_seed s.pk_seed at (n_high s.set)
