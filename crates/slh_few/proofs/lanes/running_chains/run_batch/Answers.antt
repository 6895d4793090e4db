-- Steps at the addresses of the chains are the chains'.
use Rattle.std.proofs.Common.{◌≡◌, ℕ, ◌<◌, List, slice_index, arith, refl, subst, sym, ap, ◌∙◌}
use Rattle.std.proofs.lemmas.List.{length-replicate}
use Rattle.slh_params.specs.Address.{WOTS_HASH}
use Rattle.slh_params.specs.ParamSet.{params}
use Rattle.slh_lanes.specs.Lanes.{HasAddress, group, value_at}
use Rattle.slh_lanes.proofs.Batches.{done_next}
use Rattle.slh_few.specs.RunningChains.{ChainsAt, running_at}
use Rattle.slh_few.specs.Wots.{chain, wots_address}
use Rattle.slh_few.specs.declared.place.Place.{Place}
use Rattle.slh_few.proofs.ChainLanes.{chain-steps}
use Rattle.slh_few.proofs.lanes.running_chains.run_batch.Goals as goal

pub loop-g-init : goal.loop-g-init
loop-g-init over c = record {
  own = (refl, λ i lt. absurd (omega (arith, lt)), λ i ge. refl);
  from = (refl, λ i lt. absurd (omega (arith, lt)), λ i ge. refl);
}

pub loop-g-preserved : goal.loop-g-preserved
loop-g-preserved over c =
    let running = c.args.running.now in
    let Set : ℕ → List (List ℕ) → Type 0 = λ i y. (at : Place) → ChainsAt c.args.adrs.now at → (j : ℕ) → j < 8
    → HasAddress y j (wots_address at WOTS_HASH (slice_index (running_at running i).numbers j) 0) in
    record {
      own = done_next Set c.loop-g.g _ c.loop-g.own c.set_chains.new.adrs
          (subst (λ n. c.loop-g.g < n) (sym (length-replicate over.row.G _)) c.loop-g-test.true)
          (λ at adrs j lane. c.set_chains.ensures j lane _ (adrs j lane)) c.loop-g.invariant.own;
      from = done_next (λ (i : ℕ) (y : List ℕ). y ≡ (running_at running i).steps) c.loop-g.g _ c.loop-g.from _
          (subst (λ n. c.loop-g.g < n) (sym (length-replicate over.row.G _)) c.loop-g-test.true) refl c.loop-g.invariant.from;
    }

pub chains_each-requires : goal.chains_each-requires
chains_each-requires over c = (
  omega (arith, c.requires.few),
  (
    omega (arith, c.requires.few),
    (
      omega (arith, c.requires.few),
      (
        c.requires.few,
        λ g j in_batch lane.
            let from : group c.loop-g.from g ≡ (running_at c.args.running.now g).steps = c.loop-g.invariant.from.1 g (omega (arith, in_batch)) in
            omega (arith, ap (λ (v : List ℕ). slice_index v j) from, c.requires.steps g j in_batch lane),
      ),
    ),
  ),
)

pub returns : goal.returns
returns over c = λ at adrs g j in_batch lane.
    let p = params c.args.lanes.now.set in
    let pk = c.args.lanes.now.pk_seed.now in
    let x = value_at (group c.args.nodes.now g) j p.n in
    let number : ℕ = slice_index (running_at c.args.running.now g).numbers j in
    let count : ℕ = slice_index (group c.args.counts.now g) j in
    c.chains_each.ensures g j in_batch lane _ (c.loop-g.invariant.own.1 g (omega (arith, in_batch)) at adrs j lane)
    ∙ chain-steps p pk at number x (slice_index (group c.loop-g.from g) j) count
    ∙ ap (λ (v : List ℕ). chain p pk at number x (slice_index v j) count) (c.loop-g.invariant.from.1 g (omega (arith, in_batch)))
