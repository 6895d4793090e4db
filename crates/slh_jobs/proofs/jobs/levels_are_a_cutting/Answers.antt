use Rattle.slh_jobs.proofs.Cutting.{jobs-cut}
use Rattle.slh_jobs.proofs.jobs.levels_are_a_cutting.Goals as goal

pub returns : goal.returns
returns c = jobs-cut
