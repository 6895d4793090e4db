use Rattle.slh_key_files.proofs.Reading.{either_again}
use Rattle.slh_key_files.proofs.key_text.either_is_read.Goals as goal

pub returns : goal.returns
returns c = either_again
