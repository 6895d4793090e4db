use Rattle.std.proofs.Common.{◌≡◌, ℕ, ◌+◌, ◌*◌, slice_index, inl, inr, arith, sym, ap, ◌∙◌}
use Rattle.std.proofs.lemmas.Bool.{cases_lt}
use Rattle.slh_lanes.specs.Lanes.{group}
use Rattle.slh_lanes.proofs.joined.join_words.Goals as goal

pub returns : goal.returns
returns over c = λ g j in_batch lane.
    let of_group = λ (k : ℕ). slice_index (group c.args.batch.now k) j in
    elim (cases_lt g 1) [
      | inl low ↦
          let e : g ≡ 0 = omega (arith, low) in
          let at : 0 + j ≡ 8 * g + j = omega (arith, e) in
          c.put.ensures.others (8 * g + j) (inl (omega (arith, lane, e))) ∙ rw at at (c.put-first.ensures.put j lane) ∙ ap of_group (sym e)
      | inr ge ↦
          let e : g ≡ 1 = omega (arith, ge, in_batch, c.requires) in
          let at : 8 + j ≡ 8 * g + j = omega (arith, e) in
          rw at at (c.put.ensures.put j lane) ∙ ap of_group (sym e)
    ]
