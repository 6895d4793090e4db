-- An interrupted read leaves what it left before, so what the turns before left is kept at each end.
use Rattle.std.proofs.KnownBytes.{Keeps-refl, Keeps-trans}
use Rattle.slh_io.proofs.Parts.{kept_consumes}
use Rattle.slh_io.proofs.retry.read_again.Goals as goal

pub loop-turn-init : goal.loop-turn-init
loop-turn-init g c = Keeps-refl _

pub returns-in-Ok-clause-bytes : goal.returns-in-Ok-clause-bytes
returns-in-Ok-clause-bytes g c = (kept_consumes _ _ _ _ c.loop-turn.invariant c.in-Ok.ensures.bytes.0, c.in-Ok.ensures.bytes.1)

pub returns-then-ne-clause-bytes : goal.returns-then-ne-clause-bytes
returns-then-ne-clause-bytes g c = Keeps-trans _ _ _ c.loop-turn.invariant c.in-Err.ensures.bytes

pub loop-turn-preserved : goal.loop-turn-preserved
loop-turn-preserved g c = Keeps-trans _ _ _ c.loop-turn.invariant c.in-Err.ensures.bytes

pub returns-clause-bytes : goal.returns-clause-bytes
returns-clause-bytes g c = c.loop-turn.invariant
