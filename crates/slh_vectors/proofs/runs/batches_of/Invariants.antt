use Rattle.std.proofs.Common.{◌≡◌, ◌++◌, length}
use Rattle.slh_workers.specs.Items.{joined}
use Rattle.slh_vectors.proofs.runs.batches_of.Given as goal

abbrev pub invariant-loop-rest : goal.invariant-loop-rest
invariant-loop-rest g l = joined l.batches.items ++ l.rest ≡ l.fn.tests

abbrev pub decreases-loop-rest : goal.decreases-loop-rest
decreases-loop-rest g l = length l.rest
