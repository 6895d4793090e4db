-- After each turn the numbers before it are there, and zeros after them.
use Rattle.std.proofs.Common.{◌≡◌, ℕ, ◌-◌, [], set, slice_index, inl, inr, refl, ap, sym, ◌∙◌, arith}
use Rattle.std.proofs.lemmas.Bool.{cases_lt}
use Rattle.std.proofs.lemmas.List.{get_or-set_same, get_or-set_other, length-set}
use Rattle.slh_params.specs.ParamSet.{params}
use Rattle.slh_params.specs.Params.{w}
use Rattle.slh_params.proofs.Bounds.{len_high}
use Rattle.slh_few.proofs.Ends.{zeros_after}
use Rattle.slh_few.proofs.wots.steps_left.Goals as goal

pub loop-c-init : goal.loop-c-init
loop-c-init c = record {
  long = refl;
  left = λ i lt. omega (arith, lt);
  rest = λ i le. zeros_after [] 0 136 i refl (omega (arith, le));
}

pub loop-c-preserved : goal.loop-c-preserved
loop-c-preserved c =
    let k : ℕ = c.loop-c.c in
    let v : ℕ = c.w-last.result - 1 - slice_index c.args.digits.now k in
    let few = len_high c.args.set in
    record {
      long = length-set _ _ _ ∙ c.loop-c.invariant.long;
      left = λ i lt. elim (cases_lt i k) [
        | inl low ↦ get_or-set_other c.loop-c.left k i v 0 (omega arith) ∙ c.loop-c.invariant.left i low
        | inr ge ↦
            let e : i ≡ k = omega arith in
            ap (λ q. slice_index (set c.loop-c.left k v) q) e ∙ get_or-set_same c.loop-c.left k v 0 (omega (arith, c.loop-c.invariant.long, few))
            ∙ ap (λ q. q - 1 - slice_index c.args.digits.now k) c.w-last.ensures ∙ ap (λ q. w (params c.args.set) - 1 - slice_index c.args.digits.now q) (sym e)
      ];
      rest = λ i le. get_or-set_other c.loop-c.left k i v 0 (omega (arith, le)) ∙ c.loop-c.invariant.rest i (omega (arith, le));
    }
