use Rattle.std.proofs.Common.{◌≡◌, ℕ, ◌+◌, slice_index, set, inl, inr, arith, sym, ap, ◌∙◌}
use Rattle.std.proofs.lemmas.Bool.{cases_lt}
use Rattle.std.proofs.lemmas.List.{get_or-set_same, get_or-set_other, length-set}
use Rattle.slh_lanes.proofs.part.with_long_part.Goals as goal

pub lanes-preserved : goal.lanes-preserved
lanes-preserved g c =
    let at : ℕ = c.lanes.j in
    let place : ℕ = c.args.first + at in
    let new : ℕ = slice_index c.args.part at in
    record {
      len = length-set _ _ _ ∙ c.lanes.invariant.len;
      put = λ i lt. elim (cases_lt i at) [
        | inl below ↦ get_or-set_other c.lanes.words place (c.args.first + i) new 0 (omega arith) ∙ c.lanes.invariant.put i below
        | inr ge ↦
            let e : i ≡ at = omega arith in
            ap (λ (q : ℕ). slice_index (set c.lanes.words place new) (c.args.first + q)) e ∙ get_or-set_same c.lanes.words place new 0 (omega (arith, c.lanes.invariant.len))
            ∙ ap (λ (q : ℕ). slice_index c.args.part q) (sym e)
      ];
      others = λ i other. elim other [
        | inl low ↦ get_or-set_other c.lanes.words place i new 0 (omega arith) ∙ c.lanes.invariant.others i (inl low)
        | inr high ↦ get_or-set_other c.lanes.words place i new 0 (omega (arith, high)) ∙ c.lanes.invariant.others i (inr (omega (arith, high)))
      ];
    }
