use Rattle.std.proofs.Common.{◌≡◌, ℕ, ◌/◌, ◌^◌, ◌<◌, List, [], ◌∷◌, slice_index, sym, ap, ap₂, ◌∙◌, arith, length}
use Rattle.slh_lanes.specs.Block.{halves, marked}
use Rattle.slh_lanes.specs.Columns.{lane_column}
use Rattle.slh_lanes.proofs.Columns.{lane_column_at}
use Rattle.slh_lanes.proofs.Lanes8.{below_five}
use Rattle.slh_lanes.proofs.SecondBlock.{HasWords_second}
use Rattle.slh_lanes.proofs.block.second_block.Goals as goal

pub returns-clause-words : goal.returns-clause-words
returns-clause-words g c j lane =
    let of = g.W.Lanes.lane in
    let a = c.args.adrs.now in
    let n : ℕ = c.args.n in
    let x : List ℕ = lane_column of j c.args.x.now in
    let m = c.marked-m.result in
    let is : lane_column of j m ≡ marked n x = c.marked-m.ensures j lane in
    let long_a : length a ≡ 6 = omega arith in
    let long_m : length m ≡ 9 = omega arith in
    let marked_at : (k : ℕ) → slice_index (lane_column of j m) k ≡ slice_index (marked n x) k = λ k. ap (λ (l : List ℕ). slice_index l k) is in
    let a0 = sym (lane_column_at of j a 0 c.index-adrs-0.result (omega arith)) in
    let a1 = sym (lane_column_at of j a 1 c.index-adrs-1.result (omega arith)) in
    let a2 = sym (lane_column_at of j a 2 c.index-adrs-2.result (omega arith)) in
    let a3 = sym (lane_column_at of j a 3 c.index-adrs-3.result (omega arith)) in
    let a4 = sym (lane_column_at of j a 4 c.index-adrs-4.result (omega arith)) in
    let a5 = sym (lane_column_at of j a 5 c.index-adrs-5.result (omega arith)) in
    let m_at = λ (k : ℕ) (d : _) (lt : k < 9). sym (lane_column_at of j m k d (omega (arith, lt))) ∙ marked_at k in
    let words = HasWords_second (lane_column of j a) x (c.tell_all.ensures j lane) (c.tell_all-2.ensures j lane) n c.requires in
    λ k lt.
    words k lt ∙ sym (λ i. slice_index (a0 i ∷ a1 i ∷ a2 i ∷ a3 i ∷ a4 i
    ∷ (c.halves.ensures j lane ∙ ap₂ halves (c.high.ensures j lane ∙ ap (λ (w : ℕ). w / 2 ^ 16) a5) (m_at 0 _ (omega arith))) i
    ∷ (c.halves-2.ensures j lane ∙ ap₂ halves (m_at 0 _ (omega arith)) (m_at 1 _ (omega arith))) i ∷ (c.halves-3.ensures j lane ∙ ap₂ halves (m_at 1 _ (omega arith)) (m_at 2 _ (omega arith))) i
    ∷ (c.halves-4.ensures j lane ∙ ap₂ halves (m_at 2 _ (omega arith)) (m_at 3 _ (omega arith))) i ∷ (c.halves-5.ensures j lane ∙ ap₂ halves (m_at 3 _ (omega arith)) (m_at 4 _ (omega arith))) i
    ∷ (c.halves-6.ensures j lane ∙ ap₂ halves (m_at 4 _ (omega arith)) (m_at 5 _ (omega arith))) i ∷ (c.halves-7.ensures j lane ∙ ap₂ halves (m_at 5 _ (omega arith)) (m_at 6 _ (omega arith))) i
    ∷ (c.halves-8.ensures j lane ∙ ap₂ halves (m_at 6 _ (omega arith)) (m_at 7 _ (omega arith))) i ∷ (c.halves-9.ensures j lane ∙ ap₂ halves (m_at 7 _ (omega arith)) (m_at 8 _ (omega arith))) i
    ∷ c.splat.ensures j lane i ∷ c.splat-2.ensures j lane i ∷ []) k)

pub returns-clause-front : goal.returns-clause-front
returns-clause-front g c j =
    let of = g.W.Lanes.lane in
    let a = c.args.adrs.now in
    let long : length a ≡ 6 = omega arith in
    below_five _ (sym (lane_column_at of j a 0 c.index-adrs-0.result (omega arith))) (sym (lane_column_at of j a 1 c.index-adrs-1.result (omega arith)))
    (sym (lane_column_at of j a 2 c.index-adrs-2.result (omega arith))) (sym (lane_column_at of j a 3 c.index-adrs-3.result (omega arith)))
    (sym (lane_column_at of j a 4 c.index-adrs-4.result (omega arith)))
