-- Values of n bytes as words.
use Rattle.std.proofs.Common.{◌≡◌, ℕ, ◌*◌, ◌/◌, ◌%◌, ◌<◌, ◌≤◌, List, [], length, slice_index, slice_index_or, take, arith, refl, ap, ◌∙◌}
use Rattle.std.proofs.lemmas.List.{take_all}
use Rattle.sha2.specs.Sha256.{digest_bytes, word_at}
use Rattle.slh_lanes.specs.Columns.{column}
use Rattle.slh_lanes.proofs.Columns.{column_at}
use Rattle.slh_lanes.proofs.WordBytes.{digest_of_bytes, take_digest}

-- words that were read from a value give it
pub value_is : (ws v : List ℕ) → length v % 4 ≡ 0 → length v ≤ 32 → ((k : ℕ) → slice_index v k < 256)
    → ((k : ℕ) → k < length v / 4 → slice_index ws k ≡ word_at v (4 * k)) → take (length v) (digest_bytes ws 8) ≡ v
value_is ws v whole few small is =
    let m : ℕ = length v / 4 in
    let long : length v ≡ 4 * m = omega arith in
    ap (λ (q : ℕ). take q (digest_bytes ws 8)) long ∙ take_digest ws m 8 (omega arith)
    ∙ digest_of_bytes ws v m (omega arith) small is ∙ take_all (4 * m) v (omega arith)

-- a lane whose eight words are those of x
pub eight_words : (x : List (List ℕ)) (j n : ℕ) (ws : List ℕ)
    → slice_index ws 0 ≡ slice_index (slice_index_or x 0 []) j → slice_index ws 1 ≡ slice_index (slice_index_or x 1 []) j
    → slice_index ws 2 ≡ slice_index (slice_index_or x 2 []) j → slice_index ws 3 ≡ slice_index (slice_index_or x 3 []) j
    → slice_index ws 4 ≡ slice_index (slice_index_or x 4 []) j → slice_index ws 5 ≡ slice_index (slice_index_or x 5 []) j
    → slice_index ws 6 ≡ slice_index (slice_index_or x 6 []) j → slice_index ws 7 ≡ slice_index (slice_index_or x 7 []) j
    → take n (digest_bytes ws 8) ≡ take n (digest_bytes (column j x) 8)
unfolding digest_bytes
eight_words x j n ws e0 e1 e2 e3 e4 e5 e6 e7 =
    rw (column_at j x 0, column_at j x 1, column_at j x 2, column_at j x 3, column_at j x 4, column_at j x 5, column_at j x 6, column_at j x 7)
    (rw (e0, e1, e2, e3, e4, e5, e6, e7) refl)
