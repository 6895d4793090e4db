use Rattle.std.proofs.Common.{◌≡◌, ◌≢◌, ℕ, ◌<◌, length, slice_index}
use Rattle.slh_lanes.specs.Columns.{column}
use Rattle.slh_lanes.proofs.long_words.put_words.Given as goal

abbrev pub invariant-words : goal.invariant-words
invariant-words l = record {
  len : length l.vectors ≡ length l.initial.vectors;
  set : (i : ℕ) → i < l.k → slice_index (column l.j l.vectors) i ≡ slice_index l.fn.words i;
  others : (i : ℕ) → i ≢ l.j → column i l.vectors ≡ column i l.initial.vectors;
}
