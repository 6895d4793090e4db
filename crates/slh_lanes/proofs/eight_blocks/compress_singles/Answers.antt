use Rattle.std.proofs.Common.{◌≡◌, ◌+◌, List, ℕ, inl, inr, arith, ap, ◌∙◌}
use Rattle.std.proofs.lemmas.Bool.{cases_lt}
use Rattle.sha2.specs.Sha256.{compress}
use Rattle.slh_lanes.proofs.eight_blocks.compress_singles.Goals as goal

pub lanes-preserved : goal.lanes-preserved
lanes-preserved g c =
    let at : ℕ = c.lanes.lane in (
      λ i lt b words. elim (cases_lt i at) [
        | inl low ↦ c.compress_part.ensures.others i (inl low) ∙ c.lanes.invariant.0 i low b words
        | inr ge ↦
            let here : at + 0 ≡ i = omega arith in
            rw here at (c.compress_part.ensures.words 0 (omega arith)) b words ∙ ap (λ (h : List ℕ). compress h b) (c.lanes.invariant.1 i ge)
      ],
      λ i ge. c.compress_part.ensures.others i (inr ge) ∙ c.lanes.invariant.1 i (omega (arith, ge)),
    )
