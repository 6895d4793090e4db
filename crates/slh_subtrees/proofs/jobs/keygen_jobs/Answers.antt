use Rattle.std.proofs.Common.{arith}
use Rattle.slh_subtrees.proofs.Numbered.{length-key_generation_jobs}
use Rattle.slh_subtrees.proofs.jobs.keygen_jobs.Goals as goal

pub returns-clause-jobs : goal.returns-clause-jobs
returns-clause-jobs c =
    omega (arith, c.xmss_ranges.ensures.count, length-key_generation_jobs c.args.cutting.now)
