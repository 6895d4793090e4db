use Rattle.std.proofs.Common.{◌≡◌, ap, sym, ◌*◌, ◌∙◌, arith, length}
use Rattle.std.proofs.lemmas.List.{length-map}
use Rattle.slh_lanes.specs.Sha2.{add_state}
use Rattle.slh_lanes.specs.Columns.{lane_column}
use Rattle.slh_lanes.proofs.Columns.{lane_column_at}
use Rattle.slh_lanes.proofs.WindowPlace.{at_same}
use Rattle.slh_lanes.proofs.rounds.compress.Goals as goal

pub schedule-init : goal.schedule-init
schedule-init g c j lane b words =
    let of = g.W.Lanes.lane in
    let h = lane_column of j c.args.state.now in
    let block = c.args.block.now in
    let long : length block ≡ 16 = c.told-block in
    let window = g.met.W.Lanes.first_window b (lane_column of j block) (length-map _ _ ∙ long) words in
    let s1 = c.first_four_steps-v.ensures j lane b h (words 0 (omega arith) ∙ lane_column_at of j block 0 _ (omega arith)) (words 1 (omega arith) ∙ lane_column_at of j block 1 _ (omega arith)) (words 2 (omega arith) ∙ lane_column_at of j block 2 _ (omega arith)) (words 3 (omega arith) ∙ lane_column_at of j block 3 _ (omega arith)) (sym (g.met.W.Lanes.begins h b)) in
    let s2 = c.first_four_steps-v-2.ensures j lane b h (words 4 (omega arith) ∙ lane_column_at of j block 4 _ (omega arith)) (words 5 (omega arith) ∙ lane_column_at of j block 5 _ (omega arith)) (words 6 (omega arith) ∙ lane_column_at of j block 6 _ (omega arith)) (words 7 (omega arith) ∙ lane_column_at of j block 7 _ (omega arith)) s1 in
    let s3 = c.first_four_steps-v-3.ensures j lane b h (words 8 (omega arith) ∙ lane_column_at of j block 8 _ (omega arith)) (words 9 (omega arith) ∙ lane_column_at of j block 9 _ (omega arith)) (words 10 (omega arith) ∙ lane_column_at of j block 10 _ (omega arith)) (words 11 (omega arith) ∙ lane_column_at of j block 11 _ (omega arith)) s2 in
    (window, c.first_four_steps-v-4.ensures j lane b h (words 12 (omega arith) ∙ lane_column_at of j block 12 _ (omega arith)) (words 13 (omega arith) ∙ lane_column_at of j block 13 _ (omega arith)) (words 14 (omega arith) ∙ lane_column_at of j block 14 _ (omega arith)) (words 15 (omega arith) ∙ lane_column_at of j block 15 _ (omega arith)) s3)

pub schedule-preserved : goal.schedule-preserved
schedule-preserved g c j lane b words =
    let h = lane_column g.W.Lanes.lane j c.args.state.now in
    let after = g.W.Lanes.rounds h b in
    let s1 = c.four_steps-v.ensures j lane b h (at_same _ _ after _ _ _ (omega arith) (c.schedule.invariant j lane b words)) in
    let s2 = c.four_steps-v-in-schedule.ensures j lane b h s1 in
    let s3 = c.four_steps-v-in-schedule-2.ensures j lane b h s2 in
    let s4 = c.four_steps-v-in-schedule-3.ensures j lane b h s3 in
    at_same _ _ after _ _ _ (omega arith) s4

pub returns : goal.returns
returns g c =
    let laws = g.met.W.Lanes in
    let turns = laws.some_turns in
    let done : 16 * c.schedule.turn ≡ 16 * g.W.Lanes.TURNS = omega (arith, turns, c.turns-turn-end.ensures, c.schedule.auto.turn-end (omega (arith, turns, c.turns-turn-end.ensures))) in
    λ j lane b words.
    let h = lane_column g.W.Lanes.lane j c.args.state.now in
    c.add_state.ensures j lane ∙ ap (add_state g.W.Lanes.WIDTH h) (rw done at (c.schedule.invariant j lane b words).1) ∙ sym (laws.ends h b)
