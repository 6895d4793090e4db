use Rattle.slh_hash.specs.HashFunctions.{category_function}
use Rattle.slh_hash.specs.Stream.{HasAbsorbed}
use Rattle.slh_hash.proofs.Streams.{tweaked-append}
use Rattle.slh_hash.proofs.t_stream.TStream.absorb.Goals as goal

pub returns : goal.returns
unfolding HasAbsorbed
returns c = λ p s a x h.
    (h.0, rw (c.as_slice.ensures.value, tweaked-append (category_function p).block p s a x c.args.node.now.items) at (c.update.ensures p _ h.1))
