-- The bytes of words that are put together by shifts.
use Rattle.std.proofs.Common.{◌≡◌, ℕ, ◌+◌, ◌*◌, ◌/◌, ◌%◌, ◌^◌, ◌<◌, List, [], ◌∷◌, slice_index, arith, w32}
use Rattle.std.specs.Int.{from_be_bytes, to_be_bytes}
use Rattle.slh_lanes.specs.Block.{halves}

-- byte i of a word
abbrev pub byte : ℕ → ℕ → ℕ
byte n i = slice_index (to_be_bytes w32 n) i

abbrev pub Fit : List ℕ → Type 0
Fit xs = (k : ℕ) → slice_index xs k < 2 ^ 32

-- a word that is read from the low half of one and the high half of another
pub low_high : (p q : ℕ) → p < 2 ^ 32 → q < 2 ^ 32 → from_be_bytes w32 (byte p 2 ∷ byte p 3 ∷ byte q 0 ∷ byte q 1 ∷ []) ≡ halves p q
low_high p q fp fq =
    let a : p % 65536 ≡ p / 256 % 256 * 256 + p % 256 = omega arith in
    let b : q / 65536 ≡ q / 16777216 % 256 * 256 + q / 65536 % 256 = omega arith in
    let c : p * 65536 % 4294967296 ≡ p % 65536 * 65536 = omega arith in
    omega (arith, a, b, c)

-- from the high halves of both
pub high_high : (p q : ℕ) → p < 2 ^ 32 → q < 2 ^ 32 → from_be_bytes w32 (byte p 0 ∷ byte p 1 ∷ byte q 0 ∷ byte q 1 ∷ []) ≡ halves (p / 2 ^ 16) q
high_high p q fp fq =
    let a : p / 65536 ≡ p / 16777216 % 256 * 256 + p / 65536 % 256 = omega arith in
    let b : q / 65536 ≡ q / 16777216 % 256 * 256 + q / 65536 % 256 = omega arith in
    let c : p / 65536 * 65536 % 4294967296 ≡ p / 65536 * 65536 = omega arith in
    omega (arith, a, b, c)

-- from a low half and the byte that begins the padding
pub low_end : (p : ℕ) → p < 2 ^ 32 → from_be_bytes w32 (byte p 2 ∷ byte p 3 ∷ 0x80 ∷ 0 ∷ []) ≡ halves p 0x80000000
low_end p fp =
    let a : p % 65536 ≡ p / 256 % 256 * 256 + p % 256 = omega arith in
    let c : p * 65536 % 4294967296 ≡ p % 65536 * 65536 = omega arith in
    omega (arith, a, c)

-- the bytes of two halves
module _ (p q : ℕ) (fp : p < 2 ^ 32) (fq : q < 2 ^ 32) where
  halves_plain : halves p q ≡ p % 65536 * 65536 + q / 65536
  halves_plain = omega arith

  pub halves_0 : byte (halves p q) 0 ≡ byte p 2
  halves_0 = rw halves_plain (omega arith)

  pub halves_1 : byte (halves p q) 1 ≡ byte p 3
  halves_1 = rw halves_plain (omega arith)

  pub halves_2 : byte (halves p q) 2 ≡ byte q 0
  halves_2 = rw halves_plain (omega arith)

  pub halves_3 : byte (halves p q) 3 ≡ byte q 1
  halves_3 = rw halves_plain (omega arith)

-- the bytes of one half
module _ (n : ℕ) (fits : n < 2 ^ 32) where
  pub low_0 : byte (n * 2 ^ 16 % 2 ^ 32) 0 ≡ byte n 2
  low_0 = omega arith

  pub low_1 : byte (n * 2 ^ 16 % 2 ^ 32) 1 ≡ byte n 3
  low_1 = omega arith

  pub high_2 : byte (n / 2 ^ 16) 2 ≡ byte n 0
  high_2 = omega arith

  pub high_3 : byte (n / 2 ^ 16) 3 ≡ byte n 1
  high_3 = omega arith

  pub high_fits : n / 2 ^ 16 < 2 ^ 32
  high_fits = omega arith

  pub low_fits : n * 2 ^ 16 % 2 ^ 32 < 2 ^ 32
  low_fits = omega arith
