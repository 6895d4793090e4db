use Rattle.std.proofs.Common.{ℕ, ◌+◌, ◌<◌, List, arith, refl, subst, sym}
use Rattle.std.proofs.lemmas.List.{length-replicate}
use Rattle.slh_params.specs.AdrsType.{type_number}
use Rattle.slh_lanes.specs.Lanes.{HasAddress}
use Rattle.slh_lanes.proofs.Batches.{done_next}
use Rattle.slh_few.specs.KeyStreams.{key_at}
use Rattle.slh_few.specs.Wots.{wots_address}
use Rattle.slh_few.proofs.lanes.keys.key_adrs.Goals as goal

pub loop-g-init : goal.loop-g-init
loop-g-init over c = (refl, λ i lt. absurd (omega (arith, lt)), λ i ge. refl)

pub loop-g-preserved : goal.loop-g-preserved
loop-g-preserved over c =
    let Set : ℕ → List (List ℕ) → Type 0 = λ i y. (j : ℕ) → j < 8
    → HasAddress y j (wots_address (key_at c.args.at j) (type_number c.args.kind) (c.args.c + i) 0) in
    done_next Set c.loop-g.g _ c.loop-g.adrs c.chain_adrs.result (subst (λ n. c.loop-g.g < n) (sym (length-replicate over.row.G _)) c.loop-g-test.true) c.chain_adrs.ensures c.loop-g.invariant

pub returns : goal.returns
returns over c = λ g j in_batch lane. c.loop-g.invariant.1 g (omega (arith, in_batch)) j lane
