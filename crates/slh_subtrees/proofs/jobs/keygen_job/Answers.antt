use Rattle.slh_subtrees.proofs.Numbered.{job-layer_zero}
use Rattle.slh_subtrees.proofs.jobs.keygen_job.Goals as goal

pub returns-clause-leaves : goal.returns-clause-leaves
returns-clause-leaves c = job-layer_zero c.args.cutting.now c.args.number _ _ c.job_in.ensures.leaves
