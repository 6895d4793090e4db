use Rattle.std.proofs.Common.{◌≡◌, ◌++◌, length}
use Rattle.slh_workers.specs.Items.{joined}
use Rattle.slh_workers.proofs.batches.push_cut.Given as goal

abbrev pub invariant-loop-rest : goal.invariant-loop-rest
invariant-loop-rest g l = joined l.batches.items ++ l.rest ≡ joined l.fn.batches.items ++ l.fn.items

abbrev pub decreases-loop-rest : goal.decreases-loop-rest
decreases-loop-rest g l = length l.rest
