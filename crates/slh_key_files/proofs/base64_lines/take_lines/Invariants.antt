use Rattle.std.proofs.Common.{◌≡◌, ◌+◌, ◌/◌, ◌<◌, ℕ, slice_index}
use Rattle.slh_key_files.proofs.base64_lines.take_lines.Given as goal

abbrev pub invariant-chars : goal.invariant-chars
invariant-chars l = (j : ℕ) → j < l.i → slice_index l.chars j ≡ slice_index l.text (j + j / 64)
