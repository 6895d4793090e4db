use Rattle.slh_key_files.proofs.Reading.{upgraded_again}
use Rattle.slh_key_files.proofs.key_text.upgraded_stays.Goals as goal

pub returns : goal.returns
returns c = upgraded_again
