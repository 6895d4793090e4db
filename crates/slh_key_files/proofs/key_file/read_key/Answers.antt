-- A key of either kind is read exactly where the file is in the grammar.
use Rattle.std.proofs.Common.{rules}
use Rattle.slh_key_files.proofs.Reading.{accepts_any}
use Rattle.slh_key_files.proofs.key_file.read_key.Goals as goal

pub returns-in_ok-read-in_default-clause-accepted : goal.returns-in_ok-read-in_default-clause-accepted
returns-in_ok-read-in_default-clause-accepted c = accepts_any c.args.bytes.now _ (search rules)
