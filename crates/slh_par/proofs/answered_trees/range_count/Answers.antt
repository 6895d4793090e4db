use Rattle.std.proofs.Common.{sym, ◌∙◌}
use Rattle.slh_subtrees.specs.declared.range.JobTree.TheVariants.{Xmss, Fors}
use Rattle.slh_subtrees.proofs.Numbered.{length-tree_jobs}
use Rattle.slh_par.proofs.answered_trees.range_count.Goals as goal

pub returns-in-Xmss-clause-count : goal.returns-in-Xmss-clause-count
returns-in-Xmss-clause-count c =
    c.xmss_ranges.ensures.count ∙ sym (length-tree_jobs c.args.cutting.now (Xmss c.in-Xmss.field-0)) ∙ (cc)

pub returns-in-Fors-clause-count : goal.returns-in-Fors-clause-count
returns-in-Fors-clause-count c =
    c.fors_ranges.ensures.count ∙ sym (length-tree_jobs c.args.cutting.now (Fors c.in-Fors.field-0)) ∙ (cc)
