use Rattle.slh_jobs.proofs.Texts.{one_text}
use Rattle.slh_jobs.proofs.tag.texts_differ.Goals as goal

pub returns : goal.returns
returns c = one_text
