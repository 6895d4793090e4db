use Rattle.slh_hash.specs.Stream.{IsKeyed}
use Rattle.slh_hash.proofs.category_hmac.CategoryHmac.into_outer.Goals as goal

pub returns : goal.returns
unfolding IsKeyed
returns c = λ p key text h. rw (c.as_slice.ensures.value, c.digest.ensures p _ h.1.0) at (c.update.ensures p _ h.1.1)
