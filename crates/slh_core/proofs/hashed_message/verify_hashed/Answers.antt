-- By the hash of the front and the message, the verdict is that on the message.
use Rattle.slh_core.proofs.Hashed.{same_verdict}
use Rattle.slh_core.proofs.hashed_message.verify_hashed.Goals as goal

pub returns-clause-of_message : goal.returns-clause-of_message
returns-clause-of_message c = λ ctx msg short e.
    let same = same_verdict c.args.pk.now ctx c.args.sig.now msg c.args.hash.now e in
    let valid = c.is_valid_by_hash.ensures in
    (λ t. (short, same.0 (valid.0 t)), λ v. valid.1 (same.1 v.1))
