-- The array begins with the digits, and zeros follow them.
use Rattle.std.proofs.Common.{◌≡◌, ℕ, ◌≤◌, ◌-◌, length, get_or, ap, sym, subst, ◌∙◌, arith}
use Rattle.std.proofs.lemmas.List.{get_or_append_left, length-take-le}
use Rattle.slh_params.specs.ParamSet.{params}
use Rattle.slh_params.specs.Params.{len, w}
use Rattle.slh_params.proofs.Bounds.{len_high}
use Rattle.slh_few.proofs.DigitBounds.{digit-small, length-digits}
use Rattle.slh_few.proofs.Ends.{zeros_after}
use Rattle.slh_few.proofs.wots_digits.digits_of.Goals as goal

pub slice_bounds-out-end : goal.slice_bounds-out-end
slice_bounds-out-end c = omega (arith, c.len-count.ensures, len_high c.args.set)

pub slice_bounds-digits-end : goal.slice_bounds-digits-end
slice_bounds-digits-end c =
    let h : c.len-count.result ≤ 136 = omega (arith, c.len-count.ensures, len_high c.args.set) in
    sym (length-take-le c.len-count.result _ h)

pub digits-requires-clause-out : goal.digits-requires-clause-out
digits-requires-clause-out c =
    let h : c.len-count.result ≤ 136 = omega (arith, c.len-count.ensures, len_high c.args.set) in
    length-take-le c.len-count.result _ h ∙ c.len-count.ensures

pub returns-clause-digits : goal.returns-clause-digits
returns-clause-digits c = λ i l.
    let p = params c.args.set in
    let s : length c.digits.new.out ≡ len p = ap length c.digits.ensures.digits ∙ length-digits p c.args.msg.now.items in
    get_or_append_left c.digits.new.out _ 0 i (omega (arith, s)) ∙ ap (λ xs. get_or xs i 0) c.digits.ensures.digits

pub returns-clause-small : goal.returns-clause-small
returns-clause-small c = λ i l.
    let p = params c.args.set in
    let At : ℕ → Type 0 = λ d. d ≤ w p - 1 in
    let s : length c.digits.new.out ≡ len p = ap length c.digits.ensures.digits ∙ length-digits p c.args.msg.now.items in
    subst At (sym (get_or_append_left c.digits.new.out _ 0 i (omega (arith, s)) ∙ ap (λ xs. get_or xs i 0) c.digits.ensures.digits))
    (digit-small p c.args.msg.now.items i)

pub returns-clause-rest : goal.returns-clause-rest
returns-clause-rest c = λ i l.
    let p = params c.args.set in
    let s : length c.digits.new.out ≡ c.len-count.result =
    ap length c.digits.ensures.digits ∙ length-digits p c.args.msg.now.items ∙ sym c.len-count.ensures in
    zeros_after c.digits.new.out c.len-count.result 136 i s (omega (arith, c.len-count.ensures))
