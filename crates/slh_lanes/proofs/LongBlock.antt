-- The words of the block after PK.seed's that SHA-512 hashes, for each n.
use Rattle.std.proofs.Common.{◌≡◌, ℕ, ◌+◌, ◌-◌, ◌*◌, ◌/◌, ◌^◌, ◌<◌, ◌⊎◌, inl, inr, List, [], ◌∷◌, ◌++◌, slice_index, take, arith, refl, subst, sym, ap, ap₂, ◌∙◌, w32, w64}
use Rattle.std.specs.Int.{from_be_bytes}
use Rattle.std.proofs.lemmas.Bool.{cases_lt}
use Rattle.std.proofs.lemmas.Nat.{from_be_bytes-to_be_bytes_4}
use Rattle.sha2.specs.Sha256.{digest_bytes, word_at}
use Rattle.sha2.specs.Sha512.{word_at as long_word_at}
use Rattle.slh_lanes.specs.Block.{halves}
use Rattle.slh_lanes.specs.LongBlock.{HasLongWords, long_word, long_word_of_halves, long_second_block, marked_pair}
use Rattle.slh_lanes.proofs.Halves.{Fit, high_high, low_end, low_high}
use Rattle.slh_lanes.proofs.SecondBlock.{below_sixteen}

-- the block of 128 bytes has these words of 32 bits
abbrev HasShortWords : List ℕ → List ℕ → Type 0
HasShortWords b ws = (k : ℕ) → k < 32 → word_at b (4 * k) ≡ slice_index ws k

long_word_bytes : (a b c d e f g h : ℕ) → from_be_bytes w64 (a ∷ b ∷ c ∷ d ∷ e ∷ f ∷ g ∷ h ∷ [])
    ≡ long_word (from_be_bytes w32 (a ∷ b ∷ c ∷ d ∷ [])) (from_be_bytes w32 (e ∷ f ∷ g ∷ h ∷ []))
long_word_bytes a b c d e f g h = omega arith

-- a word of 64 bits is two of 32
pub long_word_of_two : (b : List ℕ) (i : ℕ) → long_word_at b i ≡ long_word (word_at b i) (word_at b (i + 4))
long_word_of_two b i =
    let e5 : i + 5 ≡ i + 4 + 1 = omega arith in
    let e6 : i + 6 ≡ i + 4 + 2 = omega arith in
    let e7 : i + 7 ≡ i + 4 + 3 = omega arith in
    let at = slice_index b in
    (λ q. from_be_bytes w64 (at i ∷ at (i + 1) ∷ at (i + 2) ∷ at (i + 3) ∷ at (i + 4) ∷ at (e5 q) ∷ at (e6 q) ∷ at (e7 q) ∷ []))
    ∙ long_word_bytes (at i) (at (i + 1)) (at (i + 2)) (at (i + 3)) (at (i + 4)) (at (i + 4 + 1)) (at (i + 4 + 2)) (at (i + 4 + 3))

-- words of 64 bits from those of 32
long_words : (b ws vs : List ℕ) → HasShortWords b ws
    → ((k : ℕ) → k < 16 → slice_index vs k ≡ long_word (slice_index ws (2 * k)) (slice_index ws (2 * k + 1))) → HasLongWords b vs
long_words b ws vs short two k lt =
    let even : 8 * k ≡ 4 * (2 * k) = omega arith in
    let odd : 8 * k + 4 ≡ 4 * (2 * k + 1) = omega arith in
    long_word_of_two b (8 * k)
    ∙ ap₂ long_word (ap (word_at b) even ∙ short (2 * k) (omega arith)) (ap (word_at b) odd ∙ short (2 * k + 1) (omega arith))
    ∙ sym (two k lt)

-- what holds of each of the thirty-two words
below_32 : (P : ℕ → Type 0) → ((k : ℕ) → k < 16 → P k) → ((k : ℕ) → k < 16 → P (16 + k)) → (k : ℕ) → k < 32 → P k
below_32 P low high k h = elim (cases_lt k 16) [
  | inl lt ↦ low k lt
  | inr ge ↦
      let back : 16 + (k - 16) ≡ k = omega arith in
      subst P back (high (k - 16) (omega arith))
]

-- the words of 32 bits from those of the address and the seventeen of a marked pair
abbrev second_words : List ℕ → List ℕ → ℕ → List ℕ
second_words a m n =
    slice_index a 0 ∷ slice_index a 1 ∷ slice_index a 2 ∷ slice_index a 3 ∷ slice_index a 4
    ∷ halves (slice_index a 5 / 2 ^ 16) (slice_index m 0)
    ∷ halves (slice_index m 0) (slice_index m 1) ∷ halves (slice_index m 1) (slice_index m 2)
    ∷ halves (slice_index m 2) (slice_index m 3) ∷ halves (slice_index m 3) (slice_index m 4)
    ∷ halves (slice_index m 4) (slice_index m 5) ∷ halves (slice_index m 5) (slice_index m 6)
    ∷ halves (slice_index m 6) (slice_index m 7) ∷ halves (slice_index m 7) (slice_index m 8)
    ∷ halves (slice_index m 8) (slice_index m 9) ∷ halves (slice_index m 9) (slice_index m 10)
    ∷ halves (slice_index m 10) (slice_index m 11) ∷ halves (slice_index m 11) (slice_index m 12)
    ∷ halves (slice_index m 12) (slice_index m 13) ∷ halves (slice_index m 13) (slice_index m 14)
    ∷ halves (slice_index m 14) (slice_index m 15) ∷ halves (slice_index m 15) (slice_index m 16)
    ∷ 0 ∷ 0 ∷ 0 ∷ 0 ∷ 0 ∷ 0 ∷ 0 ∷ 0 ∷ 0 ∷ (150 + 2 * n) * 8 ∷ []

-- the words of 64 bits
abbrev pub second_long_words : List ℕ → List ℕ → ℕ → List ℕ
second_long_words a m n =
    long_word (slice_index a 0) (slice_index a 1) ∷ long_word (slice_index a 2) (slice_index a 3)
    ∷ long_word (slice_index a 4) (halves (slice_index a 5 / 2 ^ 16) (slice_index m 0))
    ∷ long_word_of_halves (slice_index m 0) (slice_index m 1) (slice_index m 2)
    ∷ long_word_of_halves (slice_index m 2) (slice_index m 3) (slice_index m 4)
    ∷ long_word_of_halves (slice_index m 4) (slice_index m 5) (slice_index m 6)
    ∷ long_word_of_halves (slice_index m 6) (slice_index m 7) (slice_index m 8)
    ∷ long_word_of_halves (slice_index m 8) (slice_index m 9) (slice_index m 10)
    ∷ long_word_of_halves (slice_index m 10) (slice_index m 11) (slice_index m 12)
    ∷ long_word_of_halves (slice_index m 12) (slice_index m 13) (slice_index m 14)
    ∷ long_word_of_halves (slice_index m 14) (slice_index m 15) (slice_index m 16)
    ∷ 0 ∷ 0 ∷ 0 ∷ 0 ∷ (150 + 2 * n) * 8 ∷ []

second_of_two : (a m : List ℕ) (n : ℕ) (k : ℕ) → k < 16
    → slice_index (second_long_words a m n) k ≡ long_word (slice_index (second_words a m n) (2 * k)) (slice_index (second_words a m n) (2 * k + 1))
second_of_two a m n =
    below_sixteen (λ k. slice_index (second_long_words a m n) k ≡ long_word (slice_index (second_words a m n) (2 * k)) (slice_index (second_words a m n) (2 * k + 1)))
    refl refl refl refl refl refl refl refl refl refl refl refl refl refl refl (omega arith)

abbrev second : ℕ → List ℕ → List ℕ → List ℕ → List ℕ
second n a x y = long_second_block (take 22 (digest_bytes a 6)) (take n (digest_bytes x 8) ++ take n (digest_bytes y 8))

abbrev IsShort : ℕ → List ℕ → List ℕ → List ℕ → Type 0
IsShort n a x y = HasShortWords (second n a x y) (second_words a (marked_pair n x y) n)

abbrev IsSecond : ℕ → List ℕ → List ℕ → List ℕ → Type 0
IsSecond n a x y = HasLongWords (second n a x y) (second_long_words a (marked_pair n x y) n)

module _ (a x y : List ℕ) (fa : Fit a) (fx : Fit x) (fy : Fit y) where
  short_24 : IsShort 24 a x y
  unfolding digest_bytes
  short_24 =
      below_32 _
      (below_sixteen _
      (from_be_bytes-to_be_bytes_4 (slice_index a 0) (fa 0))
      (from_be_bytes-to_be_bytes_4 (slice_index a 1) (fa 1))
      (from_be_bytes-to_be_bytes_4 (slice_index a 2) (fa 2))
      (from_be_bytes-to_be_bytes_4 (slice_index a 3) (fa 3))
      (from_be_bytes-to_be_bytes_4 (slice_index a 4) (fa 4))
      (high_high (slice_index a 5) (slice_index x 0) (fa 5) (fx 0))
      (low_high (slice_index x 0) (slice_index x 1) (fx 0) (fx 1))
      (low_high (slice_index x 1) (slice_index x 2) (fx 1) (fx 2))
      (low_high (slice_index x 2) (slice_index x 3) (fx 2) (fx 3))
      (low_high (slice_index x 3) (slice_index x 4) (fx 3) (fx 4))
      (low_high (slice_index x 4) (slice_index x 5) (fx 4) (fx 5))
      (low_high (slice_index x 5) (slice_index y 0) (fx 5) (fy 0))
      (low_high (slice_index y 0) (slice_index y 1) (fy 0) (fy 1))
      (low_high (slice_index y 1) (slice_index y 2) (fy 1) (fy 2))
      (low_high (slice_index y 2) (slice_index y 3) (fy 2) (fy 3))
      (low_high (slice_index y 3) (slice_index y 4) (fy 3) (fy 4)))
      (below_sixteen _
      (low_high (slice_index y 4) (slice_index y 5) (fy 4) (fy 5))
      (low_end (slice_index y 5) (fy 5))
      refl refl refl refl refl refl refl refl refl refl refl refl refl refl)

  short_32 : IsShort 32 a x y
  unfolding digest_bytes
  short_32 =
      below_32 _
      (below_sixteen _
      (from_be_bytes-to_be_bytes_4 (slice_index a 0) (fa 0))
      (from_be_bytes-to_be_bytes_4 (slice_index a 1) (fa 1))
      (from_be_bytes-to_be_bytes_4 (slice_index a 2) (fa 2))
      (from_be_bytes-to_be_bytes_4 (slice_index a 3) (fa 3))
      (from_be_bytes-to_be_bytes_4 (slice_index a 4) (fa 4))
      (high_high (slice_index a 5) (slice_index x 0) (fa 5) (fx 0))
      (low_high (slice_index x 0) (slice_index x 1) (fx 0) (fx 1))
      (low_high (slice_index x 1) (slice_index x 2) (fx 1) (fx 2))
      (low_high (slice_index x 2) (slice_index x 3) (fx 2) (fx 3))
      (low_high (slice_index x 3) (slice_index x 4) (fx 3) (fx 4))
      (low_high (slice_index x 4) (slice_index x 5) (fx 4) (fx 5))
      (low_high (slice_index x 5) (slice_index x 6) (fx 5) (fx 6))
      (low_high (slice_index x 6) (slice_index x 7) (fx 6) (fx 7))
      (low_high (slice_index x 7) (slice_index y 0) (fx 7) (fy 0))
      (low_high (slice_index y 0) (slice_index y 1) (fy 0) (fy 1))
      (low_high (slice_index y 1) (slice_index y 2) (fy 1) (fy 2)))
      (below_sixteen _
      (low_high (slice_index y 2) (slice_index y 3) (fy 2) (fy 3))
      (low_high (slice_index y 3) (slice_index y 4) (fy 3) (fy 4))
      (low_high (slice_index y 4) (slice_index y 5) (fy 4) (fy 5))
      (low_high (slice_index y 5) (slice_index y 6) (fy 5) (fy 6))
      (low_high (slice_index y 6) (slice_index y 7) (fy 6) (fy 7))
      (low_end (slice_index y 7) (fy 7))
      refl refl refl refl refl refl refl refl refl refl)

  pub HasLongWords_second : (n : ℕ) → (n ≡ 24) ⊎ (n ≡ 32) → IsSecond n a x y
  HasLongWords_second n cases =
      let all : (m : ℕ) → IsShort m a x y → IsSecond m a x y = λ m short.
      long_words _ (second_words a (marked_pair m x y) m) (second_long_words a (marked_pair m x y) m) short (second_of_two a (marked_pair m x y) m) in
      elim cases [
        | inl e ↦ subst (λ (m : ℕ). IsSecond m a x y) (sym e) (all 24 short_24)
        | inr e ↦ subst (λ (m : ℕ). IsSecond m a x y) (sym e) (all 32 short_32)
      ]
