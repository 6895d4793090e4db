use Rattle.std.proofs.Common.{◌≡◌, ℕ, ◌/◌, ◌%◌, ◌^◌, ◌<◌, List, length, slice_index, arith, sym, ◌∙◌}
use Rattle.slh_lanes.specs.Block.{halves}
use Rattle.slh_lanes.specs.Columns.{lane_column}
use Rattle.slh_lanes.proofs.Addresses.{hash_set}
use Rattle.slh_lanes.proofs.Columns.{lane_column_at}
use Rattle.slh_lanes.proofs.Lanes8.{below_five}
use Rattle.slh_lanes.proofs.chains.at_step.Goals as goal

-- a word whose low half is zero, with a number below 2^16 in it
kept : (w n : ℕ) → w < 2 ^ 32 → w % 2 ^ 16 ≡ 0 → n < 2 ^ 16 → w ≡ halves (w / 2 ^ 16) n
kept w n fits low few = omega arith

pub returns-clause-address : goal.returns-clause-address
returns-clause-address g c = λ j lane few a held.
    let of = g.W.Lanes.lane in
    let x = c.args.adrs.now in
    let n : ℕ = of c.args.numbers j in
    let ws : List ℕ = lane_column of j x in
    let long : length x ≡ 6 = omega arith in
    hash_set ws _ n (c.tell_all.ensures j lane) (omega (arith, few))
    (sym (lane_column_at of j x 0 c.index-adrs-0.result (omega arith))) (sym (lane_column_at of j x 1 c.index-adrs-1.result (omega arith)))
    (sym (lane_column_at of j x 2 c.index-adrs-2.result (omega arith))) (sym (lane_column_at of j x 3 c.index-adrs-3.result (omega arith)))
    (sym (lane_column_at of j x 4 c.index-adrs-4.result (omega arith)) ∙ kept (slice_index ws 4) n (c.tell_all.ensures j lane 4) (c.requires.low j lane) few)
    (c.low.ensures j lane)
    (record a { hash = 0 }) held

pub returns-clause-front : goal.returns-clause-front
returns-clause-front g c j =
    let of = g.W.Lanes.lane in
    let a = c.args.adrs.now in
    let long : length a ≡ 6 = omega arith in
    below_five _ (sym (lane_column_at of j a 0 c.index-adrs-0.result (omega arith))) (sym (lane_column_at of j a 1 c.index-adrs-1.result (omega arith)))
    (sym (lane_column_at of j a 2 c.index-adrs-2.result (omega arith))) (sym (lane_column_at of j a 3 c.index-adrs-3.result (omega arith)))
    (sym (lane_column_at of j a 4 c.index-adrs-4.result (omega arith)))
