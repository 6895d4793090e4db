use Rattle.std.proofs.Common.{◌++◌}
use Rattle.std.proofs.lemmas.List.{append_assoc}
use Rattle.slh_hash.specs.Stream.{HasMessage}
use Rattle.slh_hash.proofs.message.HMsg.update.Goals as goal

pub returns : goal.returns
unfolding HasMessage
returns c = λ p r pk_seed pk_root msg h.
    (h.0, (h.1.0, rw (append_assoc (r ++ pk_seed ++ pk_root) msg c.args.piece.now) at (c.update.ensures p _ h.1.1)))
