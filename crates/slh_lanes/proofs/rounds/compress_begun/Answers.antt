use Rattle.std.proofs.Common.{◌≡◌, ◌*◌, ap, sym, ◌∙◌, length, arith}
use Rattle.std.proofs.lemmas.List.{length-map}
use Rattle.slh_lanes.specs.Sha2.{add_state}
use Rattle.slh_lanes.specs.Columns.{lane_column}
use Rattle.slh_lanes.proofs.Columns.{lane_column_at}
use Rattle.slh_lanes.proofs.rounds.compress_begun.Goals as goal

pub returns : goal.returns
returns g c = λ j lane b words begun.
    let laws = g.met.W.Lanes in
    let h = lane_column g.W.Lanes.lane j c.args.state.now in
    let window = laws.first_window b (lane_column g.W.Lanes.lane j c.args.block.now) (length-map _ _ ∙ c.told-block) words in
    let of = g.W.Lanes.lane in
    let block = c.args.block.now in
    let long : length block ≡ 16 = c.told-block in
    let s1 = c.first_step-v.ensures j lane b h (words 5 (omega arith) ∙ lane_column_at of j block 5 _ (omega arith)) begun in
    let s2 = c.first_step-v-2.ensures j lane b h (words 6 (omega arith) ∙ lane_column_at of j block 6 _ (omega arith)) s1 in
    let s3 = c.first_step-v-3.ensures j lane b h (words 7 (omega arith) ∙ lane_column_at of j block 7 _ (omega arith)) s2 in
    let s4 = c.first_four_steps-v.ensures j lane b h (words 8 (omega arith) ∙ lane_column_at of j block 8 _ (omega arith)) (words 9 (omega arith) ∙ lane_column_at of j block 9 _ (omega arith)) (words 10 (omega arith) ∙ lane_column_at of j block 10 _ (omega arith)) (words 11 (omega arith) ∙ lane_column_at of j block 11 _ (omega arith)) s3 in
    let s5 = c.first_four_steps-v-2.ensures j lane b h (words 12 (omega arith) ∙ lane_column_at of j block 12 _ (omega arith)) (words 13 (omega arith) ∙ lane_column_at of j block 13 _ (omega arith)) (words 14 (omega arith) ∙ lane_column_at of j block 14 _ (omega arith)) (words 15 (omega arith) ∙ lane_column_at of j block 15 _ (omega arith)) s4 in
    let t1 = c.four_steps-v.ensures j lane b h (window, s5) in
    let t2 = c.four_steps-v-2.ensures j lane b h t1 in
    let t3 = c.four_steps-v-3.ensures j lane b h t2 in
    let t4 = c.four_steps-v-4.ensures j lane b h t3 in
    let t5 = c.four_steps-v-5.ensures j lane b h t4 in
    let t6 = c.four_steps-v-6.ensures j lane b h t5 in
    let t7 = c.four_steps-v-7.ensures j lane b h t6 in
    let t8 = c.four_steps-v-8.ensures j lane b h t7 in
    let t9 = c.four_steps-v-9.ensures j lane b h t8 in
    let t10 = c.four_steps-v-10.ensures j lane b h t9 in
    let t11 = c.four_steps-v-11.ensures j lane b h t10 in
    let t12 = c.four_steps-v-12.ensures j lane b h t11 in
    let done : 16 * 4 ≡ 16 * g.W.Lanes.TURNS = omega (arith, c.requires) in
    c.add_state.ensures j lane ∙ ap (add_state g.W.Lanes.WIDTH h) (rw done at t12.1) ∙ sym (laws.ends h b)
