use Rattle.std.proofs.Common.{ℕ, arith, refl, subst}
use Rattle.slh_few.specs.RunningChains.{IsAdvanced, running_at}
use Rattle.slh_few.specs.declared.lanes.running_chains.RunningChains.{RunningChains}
use Rattle.slh_few.proofs.RunningChains.{changed_next}
use Rattle.slh_few.proofs.lanes.running_chains.advance_all.Goals as goal

pub loop-g-init : goal.loop-g-init
loop-g-init over c = (refl, λ i lt. absurd (omega (arith, lt)), λ i ge. refl)

pub advance-requires-clause-left : goal.advance-requires-clause-left
advance-requires-clause-left over c = λ j lane.
    rw (c.loop-g.invariant.2 c.loop-g.g (omega arith)) (c.requires.left c.loop-g.g j c.loop-g-test.true lane)

pub advance-requires-clause-within : goal.advance-requires-clause-within
advance-requires-clause-within over c = rw (c.loop-g.invariant.2 c.loop-g.g (omega arith)) (c.requires.within c.loop-g.g c.loop-g-test.true)

pub loop-g-preserved : goal.loop-g-preserved
loop-g-preserved over c =
    let old = c.args.running.now in
    let g : ℕ = c.loop-g.g in
    let now = c.loop-g.invariant.2 g (omega arith) in
    changed_next (λ (i : ℕ) (y : RunningChains). IsAdvanced c.args.count (running_at old i) y) g old c.loop-g.running c.advance.new.self (omega arith)
    (subst (λ (x : RunningChains). IsAdvanced c.args.count x c.advance.new.self) now c.advance.ensures) c.loop-g.invariant

pub returns : goal.returns
returns over c = λ g in_batch. c.loop-g.invariant.1 g (omega (arith, in_batch))
