use Rattle.std.proofs.Common.{◌≡◌, ℕ, ◌<◌, ◌*◌, length, slice_index, take}
use Rattle.sha2.specs.Sha256.{word_at}
use Rattle.slh_lanes.specs.Columns.{column}
use Rattle.slh_lanes.specs.Streams.{half_on, vectors}
use Rattle.slh_lanes.proofs.short_stream.shifted.Given as goal

abbrev pub invariant-words : goal.invariant-words
invariant-words l = (length l.block ≡ 16)
    × ((j : ℕ) → j < 8 → (i : ℕ) → i < l.k
    → word_at (take 64 (half_on (column j (vectors l.words)) 17)) (4 * i) ≡ slice_index (column j l.block) i)
