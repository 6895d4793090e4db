use Rattle.std.proofs.Common.{◌≡◌, ℕ, ◌/◌, ◌%◌, ◌^◌, List, [], ◌∷◌, slice_index, slice_index_or, take, sym, ap, ◌∙◌}
use Rattle.sha2.specs.Sha256.{digest_bytes}
use Rattle.slh_lanes.specs.Columns.{column}
use Rattle.slh_lanes.specs.Lanes.{value_at}
use Rattle.slh_lanes.proofs.Columns.{column_at}
use Rattle.slh_lanes.proofs.LongDigest.{take_parts}
use Rattle.slh_lanes.proofs.long_block.truncated.Goals as goal

pub returns : goal.returns
unfolding value_at
returns c j n lane le =
    let s : List (List ℕ) = c.args.state.now in
    let at : (k : ℕ) → slice_index (slice_index_or s k []) j ≡ slice_index (column j s) k = λ k. sym (column_at j s k) in
    let up : (k : ℕ) → slice_index (slice_index_or s k []) j / 2 ^ 32 ≡ slice_index (column j s) k / 2 ^ 32 = λ k. ap (λ (w : ℕ). w / 2 ^ 32) (at k) in
    let down : (k : ℕ) → slice_index (slice_index_or s k []) j % 2 ^ 32 ≡ slice_index (column j s) k % 2 ^ 32 = λ k. ap (λ (w : ℕ). w % 2 ^ 32) (at k) in
    (λ i. take n (digest_bytes ((c.high_words.ensures j lane ∙ up 0) i ∷ (c.low_words.ensures j lane ∙ down 0) i
    ∷ (c.high_words-2.ensures j lane ∙ up 1) i ∷ (c.low_words-2.ensures j lane ∙ down 1) i
    ∷ (c.high_words-3.ensures j lane ∙ up 2) i ∷ (c.low_words-3.ensures j lane ∙ down 2) i
    ∷ (c.high_words-4.ensures j lane ∙ up 3) i ∷ (c.low_words-4.ensures j lane ∙ down 3) i ∷ []) 8))
    ∙ take_parts (column j s) n le
