use Rattle.std.proofs.Common.{◌≡◌, ℕ, ◌<◌, List, arith, refl, subst, sym}
use Rattle.std.proofs.lemmas.List.{length-replicate}
use Rattle.slh_lanes.proofs.Batches.{done_next}
use Rattle.slh_few.specs.RunningChains.{running_at}
use Rattle.slh_few.proofs.lanes.running_chains.steps_left.Goals as goal

pub loop-g-init : goal.loop-g-init
loop-g-init over c = (refl, λ i lt. absurd (omega (arith, lt)), λ i ge. refl)

pub loop-g-preserved : goal.loop-g-preserved
loop-g-preserved over c =
    done_next (λ (i : ℕ) (y : List ℕ). y ≡ (running_at c.args.running.now i).left) c.loop-g.g _ c.loop-g.left _
    (subst (λ n. c.loop-g.g < n) (sym (length-replicate over.row.G _)) c.loop-g-test.true) refl c.loop-g.invariant

pub returns : goal.returns
returns over c = λ g in_batch. c.loop-g.invariant.1 g (omega (arith, in_batch))
