-- The digits spell 3n bytes, for which there is room.
use Rattle.std.proofs.Common.{◌≡◌, ◌*◌, ◌≤◌, length, length-take-le, arith, ap, sym, ◌∙◌}
use Rattle.std.proofs.lemmas.Grind.{common_steps}
use Rattle.slh_params.proofs.Bounds.{n_high}
use Rattle.slh_tool.specs.Seeds.{seeds_of}
use Rattle.slh_tool.proofs.Decoding.{decoded, not_decoded}
use Rattle.slh_tool.proofs.seeds.seeds_of.Goals as goal

pub overflow_mul-room : goal.overflow_mul-room
overflow_mul-room c = omega (arith, c.n.ensures, n_high c.args.set)

pub slice_bounds-room-end : goal.slice_bounds-room-end
slice_bounds-room-end c = omega (arith, c.n.ensures, n_high c.args.set)

pub slice_bounds-room-end-2 : goal.slice_bounds-room-end-2
slice_bounds-room-end-2 c =
    let fits : 3 * c.n.result ≤ 96 = omega (arith, c.n.ensures, n_high c.args.set) in
    sym (length-take-le (3 * c.n.result) _ fits)

pub returns-then-is_err-clause-value : goal.returns-then-is_err-clause-value
unfolding seeds_of
returns-then-is_err-clause-value c =
    let fits : 3 * c.n.result ≤ 96 = omega (arith, c.n.ensures, n_high c.args.set) in
    rw (← c.without_line_feed.ensures) (not_decoded c.without_line_feed.result.now _ _ c.decode_to_slice.result c.decode_to_slice.new.out
    (length-take-le (3 * c.n.result) _ fits ∙ ap (λ n. 3 * n) c.n.ensures) c.decode_to_slice.ensures.value (sym c.is_err.ensures.value ∙ c.if-is_err.true))

pub returns-clause-value : goal.returns-clause-value
unfolding seeds_of
returns-clause-value c =
    let fits : 3 * c.n.result ≤ 96 = omega (arith, c.n.ensures, n_high c.args.set) in
    let size : length c.decode_to_slice.new.out ≡ 3 * c.n.result = c.decode_to_slice.auto.out ∙ length-take-le (3 * c.n.result) _ fits in
    let e : c.try_extend_from_slice.new.self.items ≡ c.decode_to_slice.new.out = grind (arith, common_steps, size, fits) in
    rw (e, ← c.without_line_feed.ensures) (decoded c.without_line_feed.result.now _ _ c.decode_to_slice.result c.decode_to_slice.new.out
    (length-take-le (3 * c.n.result) _ fits ∙ ap (λ n. 3 * n) c.n.ensures) c.decode_to_slice.ensures.value (sym c.is_err.ensures.value ∙ c.if-is_err.false))

pub returns-clause-len : goal.returns-clause-len
returns-clause-len c =
    let fits : 3 * c.n.result ≤ 96 = omega (arith, c.n.ensures, n_high c.args.set) in
    let size : length c.decode_to_slice.new.out ≡ 3 * c.n.result = c.decode_to_slice.auto.out ∙ length-take-le (3 * c.n.result) _ fits in
    let e : c.try_extend_from_slice.new.self.items ≡ c.decode_to_slice.new.out = grind (arith, common_steps, size, fits) in
    ap length e ∙ size ∙ ap (λ n. 3 * n) c.n.ensures
