use Rattle.slh_hash.specs.Stream.{HasMessage}
use Rattle.slh_hash.proofs.message.HMsg.finish.Goals as goal

pub returns : goal.returns
unfolding HasMessage
returns c = λ p r pk_seed pk_root msg h. rw (h.0, h.1.0) at (c.put_mgf1.ensures p _ h.1.1)
