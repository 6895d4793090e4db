use Rattle.std.proofs.Common.{refl}
use Rattle.slh_hash.specs.Stream.{IsSeededTree}
use Rattle.slh_hash.proofs.t_stream.SeededTreeHash.new.Goals as goal

pub returns : goal.returns
unfolding IsSeededTree
returns c = (refl, rw (c.zeros.ensures, c.block_len.ensures, c.n.ensures) at (c.update-2.ensures _ _ (c.update.ensures _ _ c.new-hasher.ensures)))
