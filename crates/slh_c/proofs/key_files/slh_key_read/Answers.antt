-- What `put_key` answers of a key is 0 exactly if the file is readable.
use Rattle.std.proofs.Common.{Ok, length}
use Rattle.slh_c.proofs.Readable.{readable}
use Rattle.slh_c.proofs.key_files.slh_key_read.Goals as goal

pub returns-in-Ok-clause-accepted : goal.returns-in-Ok-clause-accepted
returns-in-Ok-clause-accepted c =
    readable c.args.file.now (length c.args.key.now) (Ok c.in-Ok.it) c.put_key.result c.in-Ok.ensures.first_fault c.put_key.ensures.answer
