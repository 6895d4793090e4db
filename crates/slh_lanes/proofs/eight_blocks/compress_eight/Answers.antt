use Rattle.std.proofs.Common.{◌≡◌, ◌+◌, ◌-◌, List, ℕ, inl, inr, arith, ap, ◌∙◌}
use Rattle.std.proofs.lemmas.Bool.{cases_lt}
use Rattle.sha2.specs.Sha256.{compress}
use Rattle.slh_lanes.proofs.eight_blocks.compress_eight.Goals as goal

pub returns-in-Four : goal.returns-in-Four
returns-in-Four c j lane b words = elim (cases_lt j 4) [
  | inl low ↦
      let at : 0 + j ≡ j = omega arith in
      c.compress_part-in-Four.ensures.others j (inl low) ∙ rw at at (c.compress_part.ensures.words j low) b words
  | inr ge ↦
      let at : 4 + (j - 4) ≡ j = omega arith in
      rw at at (c.compress_part-in-Four.ensures.words (j - 4) (omega arith)) b words ∙ ap (λ (h : List ℕ). compress h b) (c.compress_part.ensures.others j (inr ge))
]
