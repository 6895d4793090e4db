use Rattle.slh_jobs.proofs.Keys.{no_other_key}
use Rattle.slh_jobs.proofs.tag.keys_differ.Goals as goal

pub returns : goal.returns
returns c = no_other_key
