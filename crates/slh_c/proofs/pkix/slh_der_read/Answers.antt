-- The key that was read is the file's one key, of one of the standard's sets.
use Rattle.std.proofs.Common.{length}
use Rattle.slh_key_files.specs.Pkix.{IsDer}
use Rattle.slh_c.proofs.PkixReadable.{der_standard, not_none, readable}
use Rattle.slh_c.proofs.pkix.slh_der_read.Goals as goal

pub returns-in-Some-clause-accepted : goal.returns-in-Some-clause-accepted
returns-in-Some-clause-accepted c =
    readable IsDer der_standard c.args.der.now (length c.args.key.now) c.in-Some.it c.in-Some.ensures.accepted c.put_key.result c.put_key.ensures.answer

pub returns-in-Some-clause-other : goal.returns-in-Some-clause-other
returns-in-Some-clause-other c none = absurd (not_none IsDer der_standard c.args.der.now (length c.args.key.now) c.in-Some.it c.in-Some.ensures.accepted none)
