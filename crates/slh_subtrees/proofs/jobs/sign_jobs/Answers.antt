use Rattle.std.proofs.Common.{sym}
use Rattle.slh_subtrees.proofs.Numbered.{length-signing_jobs}
use Rattle.slh_subtrees.proofs.jobs.sign_jobs.Goals as goal

pub returns-clause-jobs : goal.returns-clause-jobs
returns-clause-jobs c =
    rw (c.ranges_of.ensures.product, c.ranges_of-2.ensures.product, c.d.ensures, c.k.ensures, c.set-set.ensures, c.xmss_ranges.ensures.count, c.fors_ranges.ensures.count)
    (sym (length-signing_jobs c.args.cutting.now))
