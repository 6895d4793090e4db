use Rattle.std.proofs.Common.{◌≤◌, length, length-take-le, arith, ap, sym, ◌∙◌}
use Rattle.slh_params.proofs.Bounds.{n_high}
use Rattle.slh_core.proofs.random.draw_seed.Goals as goal

pub slice_bounds-seed-end : goal.slice_bounds-seed-end
slice_bounds-seed-end g c =
    let fits : c.n-n.result ≤ 32 = omega (arith, c.n-n.ensures, n_high c.args.set) in
    sym (length-take-le c.n-n.result _ fits)

pub returns-in-Ok-clause-len : goal.returns-in-Ok-clause-len
returns-in-Ok-clause-len g c =
    let fits : c.n-n.result ≤ 32 = omega (arith, c.n-n.ensures, n_high c.args.set) in
    ap length c.node_of.ensures ∙ c.draw.auto.out ∙ length-take-le c.n-n.result _ fits ∙ c.n-n.ensures
