-- The key that was read is the file's one key, of one of the standard's sets.
use Rattle.std.proofs.Common.{length}
use Rattle.slh_key_files.specs.Pkix.{IsPem}
use Rattle.slh_c.proofs.PkixReadable.{pem_standard, not_none, readable}
use Rattle.slh_c.proofs.pkix.slh_pem_read.Goals as goal

pub returns-in-Some-clause-accepted : goal.returns-in-Some-clause-accepted
returns-in-Some-clause-accepted c =
    readable IsPem pem_standard c.args.pem.now (length c.args.key.now) c.in-Some.it c.in-Some.ensures c.put_key.result c.put_key.ensures.answer

pub returns-in-Some-clause-other : goal.returns-in-Some-clause-other
returns-in-Some-clause-other c none = absurd (not_none IsPem pem_standard c.args.pem.now (length c.args.key.now) c.in-Some.it c.in-Some.ensures none)
