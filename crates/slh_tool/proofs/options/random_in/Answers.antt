-- The digits spell n bytes, for which there is room.
use Rattle.std.proofs.Common.{◌≡◌, ◌≤◌, length, length-take-le, arith, ap, sym, ◌∙◌}
use Rattle.std.proofs.lemmas.Grind.{common_steps}
use Rattle.slh_params.proofs.Bounds.{n_high}
use Rattle.slh_tool.proofs.Decoding.{decoded, not_decoded}
use Rattle.slh_tool.proofs.options.random_in.Goals as goal

pub slice_bounds-room-end : goal.slice_bounds-room-end
slice_bounds-room-end c = omega (arith, c.n.ensures, n_high c.args.set)

pub slice_bounds-room-end-2 : goal.slice_bounds-room-end-2
slice_bounds-room-end-2 c =
    let fits : c.n.result ≤ 32 = omega (arith, c.n.ensures, n_high c.args.set) in
    sym (length-take-le c.n.result _ fits)

pub returns-then-is_err-clause-value : goal.returns-then-is_err-clause-value
returns-then-is_err-clause-value c =
    let fits : c.n.result ≤ 32 = omega (arith, c.n.ensures, n_high c.args.set) in
    rw (← c.as_bytes.ensures.value) (not_decoded c.as_bytes.result.now _ _ c.decode_to_slice.result c.decode_to_slice.new.out
    (length-take-le c.n.result _ fits ∙ c.n.ensures) c.decode_to_slice.ensures.value (sym c.is_err.ensures.value ∙ c.if-is_err.true))

pub returns-clause-value : goal.returns-clause-value
returns-clause-value c =
    let fits : c.n.result ≤ 32 = omega (arith, c.n.ensures, n_high c.args.set) in
    let size : length c.decode_to_slice.new.out ≡ c.n.result = c.decode_to_slice.auto.out ∙ length-take-le c.n.result _ fits in
    let e : c.try_extend_from_slice.new.self.items ≡ c.decode_to_slice.new.out = grind (arith, common_steps, size, fits) in
    rw (e, ← c.as_bytes.ensures.value) (decoded c.as_bytes.result.now _ _ c.decode_to_slice.result c.decode_to_slice.new.out
    (length-take-le c.n.result _ fits ∙ c.n.ensures) c.decode_to_slice.ensures.value (sym c.is_err.ensures.value ∙ c.if-is_err.false))

pub returns-clause-len : goal.returns-clause-len
returns-clause-len c =
    let fits : c.n.result ≤ 32 = omega (arith, c.n.ensures, n_high c.args.set) in
    let size : length c.decode_to_slice.new.out ≡ c.n.result = c.decode_to_slice.auto.out ∙ length-take-le c.n.result _ fits in
    let e : c.try_extend_from_slice.new.self.items ≡ c.decode_to_slice.new.out = grind (arith, common_steps, size, fits) in
    ap length e ∙ size ∙ c.n.ensures
