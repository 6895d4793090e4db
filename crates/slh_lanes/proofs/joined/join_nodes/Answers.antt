use Rattle.std.proofs.Common.{◌≡◌, ℕ, ◌+◌, ◌*◌, inl, inr, arith, sym, ap, ◌∙◌}
use Rattle.std.proofs.lemmas.Bool.{cases_lt}
use Rattle.slh_lanes.specs.Columns.{column}
use Rattle.slh_lanes.specs.Lanes.{group}
use Rattle.slh_lanes.proofs.joined.join_nodes.Goals as goal

pub returns : goal.returns
returns over c = λ g j in_batch lane.
    let of_group = λ (k : ℕ). column j (group c.args.batch.now k) in
    elim (cases_lt g 1) [
      | inl low ↦
          let e : g ≡ 0 = omega (arith, low) in
          let at : 0 + j ≡ 8 * g + j = omega (arith, e) in
          c.with_eight.ensures.others (8 * g + j) (inl (omega (arith, lane, e))) ∙ rw at at (c.with_eight-first.ensures.part j lane) ∙ ap of_group (sym e)
      | inr ge ↦
          let e : g ≡ 1 = omega (arith, ge, in_batch, c.requires) in
          let at : 8 + j ≡ 8 * g + j = omega (arith, e) in
          rw at at (c.with_eight.ensures.part j lane) ∙ ap of_group (sym e)
    ]
