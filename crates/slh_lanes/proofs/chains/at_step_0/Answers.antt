use Rattle.std.proofs.Common.{◌≡◌, ℕ, ◌*◌, ◌/◌, ◌%◌, ◌^◌, length, arith, sym, ap, ap₂, ◌∙◌}
use Rattle.slh_lanes.specs.Block.{halves}
use Rattle.slh_lanes.specs.Columns.{lane_column}
use Rattle.slh_lanes.proofs.Addresses.{hash_set}
use Rattle.slh_lanes.proofs.Columns.{lane_column_at}
use Rattle.slh_lanes.proofs.chains.at_step_0.Goals as goal

pub returns-clause-address : goal.returns-clause-address
returns-clause-address g c = λ j lane a held.
    let of = g.W.Lanes.lane in
    let x = c.args.adrs.now in
    let long : length x ≡ 6 = omega arith in
    hash_set (lane_column of j x) _ 0 (c.tell_all.ensures j lane) (omega arith)
    (sym (lane_column_at of j x 0 c.index-adrs-0.result (omega arith))) (sym (lane_column_at of j x 1 c.index-adrs-1.result (omega arith)))
    (sym (lane_column_at of j x 2 c.index-adrs-2.result (omega arith))) (sym (lane_column_at of j x 3 c.index-adrs-3.result (omega arith)))
    (c.halves.ensures j lane ∙ ap₂ halves (c.high.ensures j lane ∙ ap (λ (w : ℕ). w / 2 ^ 16) (sym (lane_column_at of j x 4 c.index-adrs-4.result (omega arith)))) (c.splat-zero.ensures j lane))
    (c.low.ensures j lane ∙ ap (λ (w : ℕ). w * 2 ^ 16 % 2 ^ 32) (c.splat-zero.ensures j lane))
    a held

pub returns-clause-low : goal.returns-clause-low
returns-clause-low g c j lane =
    let zero = c.splat-zero.ensures j lane in
    omega (arith, c.halves.ensures j lane, zero)
