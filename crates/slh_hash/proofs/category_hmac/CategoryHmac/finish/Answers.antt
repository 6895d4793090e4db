use Rattle.std.proofs.Common.{ap, ◌∙◌, length}
use Rattle.slh_params.proofs.Bounds.{n_high}
use Rattle.slh_hash.specs.Keyed.{hmac}
use Rattle.slh_hash.specs.Stream.{IsKeyed}
use Rattle.slh_hash.proofs.Lengths.{length-cut_hmac}
use Rattle.slh_hash.proofs.category_hmac.CategoryHmac.finish.Goals as goal

pub returns-clause-value : goal.returns-clause-value
unfolding IsKeyed hmac
returns-clause-value c = λ p key text h.
    rw (c.n.ensures, h.0) at (c.finish.ensures p _ (c.into_outer.ensures p key text h))

pub returns-clause-len : goal.returns-clause-len
unfolding IsKeyed
returns-clause-len c = λ p key text h.
    ap length (returns-clause-value c p key text h) ∙ length-cut_hmac p key text (rw h.0 at (n_high c.args.self.set))
