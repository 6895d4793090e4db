use Rattle.std.proofs.Common.{◌≡◌, ℕ, ◌+◌, List, slice_index, take, inl, inr, arith, ap, ◌∙◌}
use Rattle.std.proofs.lemmas.Bool.{cases_lt}
use Rattle.sha2.specs.Sha256.{digest_bytes}
use Rattle.slh_lanes.specs.Lanes.{HasAddress, value_at}
use Rattle.slh_lanes.specs.Steps.{steps}
use Rattle.slh_lanes.proofs.chains.run_singles.Goals as goal

pub lanes-preserved : goal.lanes-preserved
unfolding HasAddress value_at
lanes-preserved g c =
    let at : ℕ = c.lanes.lane in (
      λ p pk i a n whole lt short held.
          let value = λ (l : List ℕ). take p.n (digest_bytes l 8) in
          elim (cases_lt i at) [
            | inl low ↦ ap value (c.run_part-nodes.ensures.others i (inl low)) ∙ c.lanes.invariant.0 p pk i a n whole low short held
            | inr ge ↦
                let here : at + 0 ≡ i = omega arith in
                rw here at (c.run_part-nodes.ensures.run p pk 0 a n whole (omega arith) short) held
                ∙ ap (λ (l : List ℕ). steps p pk a (value l) (slice_index c.args.from i) (slice_index c.args.counts i)) (c.lanes.invariant.1 i ge)
          ],
      λ i ge. c.run_part-nodes.ensures.others i (inr ge) ∙ c.lanes.invariant.1 i (omega (arith, ge)),
    )
