use Rattle.std.proofs.Common.{ℕ}
use Rattle.slh_few.specs.RunningChains.{IsAdvanced, running_at}
use Rattle.slh_few.specs.declared.lanes.running_chains.RunningChains.{RunningChains}
use Rattle.slh_few.proofs.RunningChains.{Changed}
use Rattle.slh_few.proofs.lanes.running_chains.advance_all.Given as goal

abbrev pub invariant-loop-g : goal.invariant-loop-g
invariant-loop-g over l =
    Changed (λ (i : ℕ) (y : RunningChains). IsAdvanced l.count (running_at l.initial.running i) y) l.g l.initial.running l.running
