-- There is room for the digits of three seeds, a line feed and one more byte.
use Rattle.std.proofs.Common.{◌≡◌, ◌+◌, ◌*◌, ◌≤◌, length, take, length-take-le, arith, sym, ◌∙◌}
use Rattle.slh_params.proofs.Bounds.{n_high}
use Rattle.slh_tool.proofs.seeds.read_seeds.Goals as goal

pub overflow_mul-room : goal.overflow_mul-room
overflow_mul-room g c = omega (arith, c.n.ensures, n_high c.args.set)

pub overflow_add-room : goal.overflow_add-room
overflow_add-room g c = omega (arith, c.n.ensures, n_high c.args.set)

pub slice_bounds-room-end : goal.slice_bounds-room-end
slice_bounds-room-end g c = omega (arith, c.n.ensures, n_high c.args.set)

pub slice_bounds-room-end-2 : goal.slice_bounds-room-end-2
slice_bounds-room-end-2 g c =
    let fits : 6 * c.n.result + 2 ≤ 194 = omega (arith, c.n.ensures, n_high c.args.set) in
    sym (length-take-le (6 * c.n.result + 2) _ fits)

pub returns-in-None-clause-refused : goal.returns-in-None-clause-refused
returns-in-None-clause-refused g c =
    let fits : 6 * c.n.result + 2 ≤ 194 = omega (arith, c.n.ensures, n_high c.args.set) in
    let room : length c.take_up_to.new.room ≡ 6 * c.n.result + 2 = c.take_up_to.auto.room ∙ length-take-le (6 * c.n.result + 2) _ fits in
    let taken : length (take c.in-Ok.count c.take_up_to.new.room) ≡ c.in-Ok.count = length-take-le c.in-Ok.count _ c.in-Ok.ensures.count in (
      take c.in-Ok.count c.take_up_to.new.room,
      record {
        taken = c.in-Ok.ensures.bytes;
        at_most = omega (arith, taken, room, c.in-Ok.ensures.count, c.n.ensures);
        whole = λ few. c.in-Ok.ensures.end (omega (arith, taken, room, few, c.n.ensures));
      },
      sym c.in-None.ensures.value,
    )
