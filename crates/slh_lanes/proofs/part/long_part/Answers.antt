use Rattle.std.proofs.Common.{◌≡◌, ℕ, ◌+◌, slice_index, set, inl, inr, arith, sym, ap, ◌∙◌}
use Rattle.std.proofs.lemmas.Bool.{cases_lt}
use Rattle.std.proofs.lemmas.List.{get_or-set_same, get_or-set_other, length-set}
use Rattle.slh_lanes.proofs.part.long_part.Goals as goal

pub lanes-preserved : goal.lanes-preserved
lanes-preserved g c = (
  length-set _ _ _ ∙ c.lanes.invariant.0,
  λ i lt.
      let at : ℕ = c.lanes.j in
      let new : ℕ = slice_index c.args.group (c.args.first + at) in
      elim (cases_lt i at) [
        | inl below ↦ get_or-set_other c.lanes.part at i new 0 (omega arith) ∙ c.lanes.invariant.1 i below
        | inr ge ↦
            let e : i ≡ at = omega arith in
            ap (λ (q : ℕ). slice_index (set c.lanes.part at new) q) e ∙ get_or-set_same c.lanes.part at new 0 (omega (arith, c.lanes.invariant.0))
            ∙ ap (λ (q : ℕ). slice_index c.args.group (c.args.first + q)) (sym e)
      ],
)

pub returns : goal.returns
returns g c = λ j lane. c.lanes.invariant.1 j (omega (arith, lane))
