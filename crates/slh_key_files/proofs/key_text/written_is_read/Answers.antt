use Rattle.slh_key_files.proofs.Reading.{written_again}
use Rattle.slh_key_files.proofs.key_text.written_is_read.Goals as goal

pub returns : goal.returns
returns c = written_again
