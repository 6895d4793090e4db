use Rattle.std.proofs.Common.{◌≡◌, ℕ, ◌+◌, ◌*◌, ◌/◌, ◌^◌, List, [], ◌∷◌, slice_index, slice_index_or, sym, ap, ap₂, ◌∙◌}
use Rattle.slh_lanes.specs.Block.{halves}
use Rattle.slh_lanes.specs.LongBlock.{long_word, long_word_of_halves, marked_pair}
use Rattle.slh_lanes.specs.Columns.{column}
use Rattle.slh_lanes.specs.Lanes.{value_at}
use Rattle.slh_lanes.proofs.Columns.{column_at, splat_lane}
use Rattle.slh_lanes.proofs.LongBlock.{HasLongWords_second}
use Rattle.slh_lanes.proofs.long_block.second_block.Goals as goal

pub returns : goal.returns
unfolding value_at
returns c j lane =
    let a : List (List ℕ) = c.args.adrs.now in
    let n : ℕ = c.args.n in
    let x : List ℕ = column j c.args.left.now in
    let y : List ℕ = column j c.args.right.now in
    let m : List (List ℕ) = c.marked_pair-m.result in
    let is : column j m ≡ marked_pair n x y = c.marked_pair-m.ensures j lane in
    let adrs_at : (k : ℕ) → slice_index (slice_index_or a k []) j ≡ slice_index (column j a) k = λ k. sym (column_at j a k) in
    let at : (k : ℕ) → slice_index (slice_index_or m k []) j ≡ slice_index (marked_pair n x y) k = λ k.
    sym (column_at j m k) ∙ ap (λ (l : List ℕ). slice_index l k) is in
    let three : (k l o : ℕ) → long_word_of_halves (slice_index (slice_index_or m k []) j) (slice_index (slice_index_or m l []) j) (slice_index (slice_index_or m o []) j)
    ≡ long_word_of_halves (slice_index (marked_pair n x y) k) (slice_index (marked_pair n x y) l) (slice_index (marked_pair n x y) o) = λ k l o i.
    long_word_of_halves (at k i) (at l i) (at o i) in
    let zero = splat_lane 0 j lane in
    let bits = splat_lane ((150 + 2 * n) * 8) j lane in
    let words = HasLongWords_second (column j a) x y (c.tell_all.ensures j lane) (c.tell_all-2.ensures j lane) (c.tell_all-3.ensures j lane) n c.requires in
    λ k lt.
    words k lt ∙ sym (λ i. slice_index ((c.long_word.ensures j lane ∙ ap₂ long_word (adrs_at 0) (adrs_at 1)) i
    ∷ (c.long_word-2.ensures j lane ∙ ap₂ long_word (adrs_at 2) (adrs_at 3)) i
    ∷ (c.long_word-3.ensures j lane ∙ ap₂ long_word (adrs_at 4) (c.halves.ensures j lane ∙ ap₂ halves (c.high.ensures j lane ∙ ap (λ (w : ℕ). w / 2 ^ 16) (adrs_at 5)) (at 0))) i
    ∷ (c.long_word_of_halves.ensures j lane ∙ three 0 1 2) i
    ∷ (c.long_word_of_halves-2.ensures j lane ∙ three 2 3 4) i
    ∷ (c.long_word_of_halves-3.ensures j lane ∙ three 4 5 6) i
    ∷ (c.long_word_of_halves-4.ensures j lane ∙ three 6 7 8) i
    ∷ (c.long_word_of_halves-5.ensures j lane ∙ three 8 9 10) i
    ∷ (c.long_word_of_halves-6.ensures j lane ∙ three 10 11 12) i
    ∷ (c.long_word_of_halves-7.ensures j lane ∙ three 12 13 14) i
    ∷ (c.long_word_of_halves-8.ensures j lane ∙ three 14 15 16) i
    ∷ zero i ∷ zero i ∷ zero i ∷ zero i ∷ bits i ∷ []) k)
