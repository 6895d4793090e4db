use Rattle.std.proofs.Common.{◌≡◌, ℕ, ◌<◌, ◌*◌, length, slice_index}
use Rattle.sha2.specs.Sha512.{word_at as long_word_at}
use Rattle.slh_lanes.specs.Columns.{column}
use Rattle.slh_lanes.proofs.bytes.load_all_long.Given as goal

abbrev pub invariant-words : goal.invariant-words
invariant-words l = (length l.words ≡ length l.initial.words)
    × ((j : ℕ) → j < 8 → (i : ℕ) → i < l.k → slice_index (column j l.words) i ≡ long_word_at l.bytes (8 * i))
