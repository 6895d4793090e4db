-- The characters of base64 and their values, by sums and comparisons.
use Rattle.std.proofs.Common.{◌≡◌, ℕ, ◌+◌, ◌-◌, ◌*◌, ◌==◌, ◌<◌, slice_index, refl, bit_and}
use Rattle.std.proofs.lemmas.Bool.{eqb-true}
use Rattle.std.specs.Prelude.{nat_le}
use mir.Val.{bool_byte}
use Rattle.base64.proofs.Tables.{all_below_at}
use Rattle.slh_key_files.specs.Base64Lines.{characters}

-- the character of a value
abbrev pub char_by_sums : ℕ → ℕ
char_by_sums v = 65 + v + 6 * bool_byte (nat_le 26 v) - 75 * bool_byte (nat_le 52 v) - 15 * bool_byte (nat_le 62 v) + 3 * bool_byte (nat_le 63 v)

abbrev pub value_by_sums : ℕ → ℕ
value_by_sums c = bit_and (bit_and c 127 + 19 - (3 * bool_byte (nat_le 47 (bit_and c 127)) + 12 * bool_byte (nat_le 48 (bit_and c 127)))
    - 69 * bool_byte (nat_le 65 (bit_and c 127)) - 6 * bool_byte (nat_le 97 (bit_and c 127))) 63

pub char_is : (v : ℕ) → v < 64 → char_by_sums v ≡ slice_index characters v
char_is v lt = eqb-true _ _ (all_below_at (λ v. char_by_sums v == slice_index characters v) 64 v refl lt)

pub value_is : (v : ℕ) → v < 64 → value_by_sums (slice_index characters v) ≡ v
value_is v lt = eqb-true _ _ (all_below_at (λ v. value_by_sums (slice_index characters v) == v) 64 v refl lt)
