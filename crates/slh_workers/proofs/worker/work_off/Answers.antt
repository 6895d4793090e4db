-- The steps of this worker are the gate's and the work's.
use Rattle.slh_workers.proofs.worker.work_off.Goals as goal

pub returns-clause-told : goal.returns-clause-told
returns-clause-told g c = rw (c.new.ensures.1, c.new.ensures.2) at c.run_steps.ensures.told
