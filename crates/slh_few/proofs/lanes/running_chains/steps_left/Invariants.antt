use Rattle.std.proofs.Common.{◌≡◌, ℕ, List}
use Rattle.slh_lanes.proofs.Batches.{Done}
use Rattle.slh_few.specs.RunningChains.{running_at}
use Rattle.slh_few.proofs.lanes.running_chains.steps_left.Given as goal

abbrev pub invariant-loop-g : goal.invariant-loop-g
invariant-loop-g over l = Done (λ (i : ℕ) (y : List ℕ). y ≡ (running_at l.running i).left) l.g l.initial.left l.left
