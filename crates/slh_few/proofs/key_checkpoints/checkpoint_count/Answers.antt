use Rattle.std.proofs.Common.{refl}
use Rattle.slh_few.specs.KeyCheckpoints.{checkpoint_count}
use Rattle.slh_few.proofs.KeyCheckpoints.{count_low, count_high}
use Rattle.slh_few.proofs.key_checkpoints.checkpoint_count.Goals as goal

pub returns-clause-value : goal.returns-clause-value
unfolding checkpoint_count
returns-clause-value c = rw (c.w.ensures, c.spacing.ensures.value) refl

pub returns-clause-within : goal.returns-clause-within
returns-clause-within c = rw (returns-clause-value c) (count_low c.args.set, count_high c.args.set)
