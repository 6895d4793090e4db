-- By the hash of the front and the message, the verdict is that on the message.
use Rattle.std.proofs.Common.{◌≡◌}
use Rattle.slh_c.specs.Numbers.{set_numbered}
use Rattle.slh_c.proofs.Hashed.{of_message}
use Rattle.slh_c.proofs.hashed_message.slh_verify_hashed.Goals as goal

pub returns-clause-of_message : goal.returns-clause-of_message
returns-clause-of_message c = λ ctx msg short e.
    of_message (set_numbered c.args.set) (c.verdict.result ≡ 0) c.args.pk.now c.args.hash.now c.args.sig.now ctx msg c.verdict.ensures.valid short e
