-- The quotient is the tree of the job, and the remainder its range there.
use Rattle.std.proofs.Common.{arith, ap, ◌∙◌, ◌-◌}
use Rattle.slh_params.specs.ParamSet.{params}
use Rattle.slh_subtrees.specs.declared.range.JobTree.TheVariants.{Xmss, Fors}
use Rattle.slh_subtrees.proofs.Numbered.{remainder-below, job-xmss, job-fors, fors_rest, tree-fors, IsForsRest}
use Rattle.slh_subtrees.proofs.jobs.job.Goals as goal

pub job_in-requires : goal.job_in-requires
job_in-requires c = remainder-below c.args.cutting.now (Xmss _) _ _ c.xmss_ranges-each.ensures.count

pub job_in-requires-else-number-xmss_jobs : goal.job_in-requires-else-number-xmss_jobs
job_in-requires-else-number-xmss_jobs c = remainder-below c.args.cutting.now (Fors _) _ _ c.fors_ranges-each.ensures.count

pub returns-then-number-xmss_jobs-clause-job : goal.returns-then-number-xmss_jobs-clause-job
returns-then-number-xmss_jobs-clause-job c =
    job-xmss c.args.cutting.now c.args.number c.d.result c.xmss_ranges-each.result c.job_in.result (c.d.ensures ∙ ap (λ s. (params s).d) c.set-set.ensures)
    c.xmss_ranges-each.ensures.count (omega (arith, c.if-number-xmss_jobs.true, c.ranges_of-xmss_jobs.ensures.product)) c.job_in.ensures.job

pub returns-else-number-xmss_jobs-clause-job : goal.returns-else-number-xmss_jobs-clause-job
returns-else-number-xmss_jobs-clause-job c =
    let rest : IsForsRest c.args.cutting.now c.args.number (c.args.number - c.ranges_of-xmss_jobs.result) =
    fors_rest c.args.cutting.now c.args.number c.d.result c.xmss_ranges-each.result c.ranges_of-xmss_jobs.result
    (c.d.ensures ∙ ap (λ s. (params s).d) c.set-set.ensures) c.xmss_ranges-each.ensures.count c.ranges_of-xmss_jobs.ensures.product
    c.if-number-xmss_jobs.false c.requires in
    job-fors c.args.cutting.now c.args.number _ c.fors_ranges-each.result c.job_in-else-number-xmss_jobs.result rest c.fors_ranges-each.ensures.count
    c.job_in-else-number-xmss_jobs.ensures.job

pub returns-else-number-xmss_jobs-clause-tree : goal.returns-else-number-xmss_jobs-clause-tree
returns-else-number-xmss_jobs-clause-tree c =
    let rest : IsForsRest c.args.cutting.now c.args.number (c.args.number - c.ranges_of-xmss_jobs.result) =
    fors_rest c.args.cutting.now c.args.number c.d.result c.xmss_ranges-each.result c.ranges_of-xmss_jobs.result
    (c.d.ensures ∙ ap (λ s. (params s).d) c.set-set.ensures) c.xmss_ranges-each.ensures.count c.ranges_of-xmss_jobs.ensures.product
    c.if-number-xmss_jobs.false c.requires in
    rw c.job_in-else-number-xmss_jobs.ensures.tree (tree-fors c.args.cutting.now c.args.number _ _ rest c.fors_ranges-each.ensures.count)
