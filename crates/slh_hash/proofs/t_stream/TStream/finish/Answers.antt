use Rattle.std.proofs.Common.{ap, ◌∙◌, length}
use Rattle.slh_params.proofs.Bounds.{n_high}
use Rattle.slh_hash.specs.Hash.{T}
use Rattle.slh_hash.specs.Stream.{HasAbsorbed}
use Rattle.slh_hash.proofs.Lengths.{length-T}
use Rattle.slh_hash.proofs.t_stream.TStream.finish.Goals as goal

pub returns-clause-value : goal.returns-clause-value
unfolding HasAbsorbed T
returns-clause-value c = λ p s a x h. rw (c.n.ensures, h.0) at (c.finish.ensures p _ h.1)

pub returns-clause-len : goal.returns-clause-len
unfolding HasAbsorbed
returns-clause-len c = λ p s a x h.
    ap length (returns-clause-value c p s a x h) ∙ length-T p s a x (rw h.0 at (n_high c.args.self.set))
