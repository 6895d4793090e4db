-- The words of the block after PK.seed's, for each n.
use Rattle.std.proofs.Common.{◌≡◌, ℕ, zero, suc, ◌+◌, ◌*◌, ◌/◌, ◌%◌, ◌^◌, ◌<◌, ◌⊎◌, inl, inr, List, [], ◌∷◌, slice_index, take, arith, refl, subst, sym}
use Rattle.std.proofs.lemmas.Nat.{from_be_bytes-to_be_bytes_4}
use Rattle.sha2.specs.Sha256.{digest_bytes}
use Rattle.slh_lanes.specs.Block.{halves, marked, second_block}
use Rattle.slh_lanes.specs.Columns.{HasWords}
use Rattle.slh_lanes.proofs.Halves.{Fit, high_high, low_end, low_high}

-- what holds of each of the sixteen words
pub below_sixteen : (P : ℕ → Type 0) → P 0 → P 1 → P 2 → P 3 → P 4 → P 5 → P 6 → P 7
    → P 8 → P 9 → P 10 → P 11 → P 12 → P 13 → P 14 → P 15 → (k : ℕ) → k < 16 → P k
below_sixteen P a0 a1 a2 a3 b0 b1 b2 b3 c0 c1 c2 c3 d0 d1 d2 d3 k h =
    let place : 4 * (k / 4) + k % 4 ≡ k = omega arith in
    subst P place (below_four (λ row. (col : ℕ) → col < 4 → P (4 * row + col))
    (below_four _ a0 a1 a2 a3) (below_four _ b0 b1 b2 b3) (below_four _ c0 c1 c2 c3) (below_four _ d0 d1 d2 d3)
    (k / 4) (omega arith) (k % 4) (omega arith))
  where
    below_four : (P : ℕ → Type 0) → P 0 → P 1 → P 2 → P 3 → (j : ℕ) → j < 4 → P j
    below_four P p0 p1 p2 p3 zero h = p0
    below_four P p0 p1 p2 p3 (suc zero) h = p1
    below_four P p0 p1 p2 p3 (suc (suc zero)) h = p2
    below_four P p0 p1 p2 p3 (suc (suc (suc zero))) h = p3
    below_four P p0 p1 p2 p3 (suc (suc (suc (suc n)))) h = absurd (omega arith)

-- the words from those of the address and the nine of a marked value
abbrev pub second_words : List ℕ → List ℕ → ℕ → List ℕ
second_words a m n =
    slice_index a 0 ∷ slice_index a 1 ∷ slice_index a 2 ∷ slice_index a 3 ∷ slice_index a 4
    ∷ halves (slice_index a 5 / 2 ^ 16) (slice_index m 0)
    ∷ halves (slice_index m 0) (slice_index m 1) ∷ halves (slice_index m 1) (slice_index m 2)
    ∷ halves (slice_index m 2) (slice_index m 3) ∷ halves (slice_index m 3) (slice_index m 4)
    ∷ halves (slice_index m 4) (slice_index m 5) ∷ halves (slice_index m 5) (slice_index m 6)
    ∷ halves (slice_index m 6) (slice_index m 7) ∷ halves (slice_index m 7) (slice_index m 8)
    ∷ 0 ∷ (86 + n) * 8 ∷ []

abbrev IsSecond : ℕ → List ℕ → List ℕ → Type 0
IsSecond n a x = HasWords (second_block (take 22 (digest_bytes a 6)) (take n (digest_bytes x 8))) (second_words a (marked n x) n)

module _ (a x : List ℕ) (fa : Fit a) (fx : Fit x) where
  second_16 : IsSecond 16 a x
  unfolding digest_bytes
  second_16 =
      below_sixteen _
      (from_be_bytes-to_be_bytes_4 (slice_index a 0) (fa 0))
      (from_be_bytes-to_be_bytes_4 (slice_index a 1) (fa 1))
      (from_be_bytes-to_be_bytes_4 (slice_index a 2) (fa 2))
      (from_be_bytes-to_be_bytes_4 (slice_index a 3) (fa 3))
      (from_be_bytes-to_be_bytes_4 (slice_index a 4) (fa 4))
      (high_high (slice_index a 5) (slice_index x 0) (fa 5) (fx 0))
      (low_high (slice_index x 0) (slice_index x 1) (fx 0) (fx 1))
      (low_high (slice_index x 1) (slice_index x 2) (fx 1) (fx 2))
      (low_high (slice_index x 2) (slice_index x 3) (fx 2) (fx 3))
      (low_end (slice_index x 3) (fx 3))
      refl refl refl refl refl refl

  second_24 : IsSecond 24 a x
  unfolding digest_bytes
  second_24 =
      below_sixteen _
      (from_be_bytes-to_be_bytes_4 (slice_index a 0) (fa 0))
      (from_be_bytes-to_be_bytes_4 (slice_index a 1) (fa 1))
      (from_be_bytes-to_be_bytes_4 (slice_index a 2) (fa 2))
      (from_be_bytes-to_be_bytes_4 (slice_index a 3) (fa 3))
      (from_be_bytes-to_be_bytes_4 (slice_index a 4) (fa 4))
      (high_high (slice_index a 5) (slice_index x 0) (fa 5) (fx 0))
      (low_high (slice_index x 0) (slice_index x 1) (fx 0) (fx 1))
      (low_high (slice_index x 1) (slice_index x 2) (fx 1) (fx 2))
      (low_high (slice_index x 2) (slice_index x 3) (fx 2) (fx 3))
      (low_high (slice_index x 3) (slice_index x 4) (fx 3) (fx 4))
      (low_high (slice_index x 4) (slice_index x 5) (fx 4) (fx 5))
      (low_end (slice_index x 5) (fx 5))
      refl refl refl refl

  second_32 : IsSecond 32 a x
  unfolding digest_bytes
  second_32 =
      below_sixteen _
      (from_be_bytes-to_be_bytes_4 (slice_index a 0) (fa 0))
      (from_be_bytes-to_be_bytes_4 (slice_index a 1) (fa 1))
      (from_be_bytes-to_be_bytes_4 (slice_index a 2) (fa 2))
      (from_be_bytes-to_be_bytes_4 (slice_index a 3) (fa 3))
      (from_be_bytes-to_be_bytes_4 (slice_index a 4) (fa 4))
      (high_high (slice_index a 5) (slice_index x 0) (fa 5) (fx 0))
      (low_high (slice_index x 0) (slice_index x 1) (fx 0) (fx 1))
      (low_high (slice_index x 1) (slice_index x 2) (fx 1) (fx 2))
      (low_high (slice_index x 2) (slice_index x 3) (fx 2) (fx 3))
      (low_high (slice_index x 3) (slice_index x 4) (fx 3) (fx 4))
      (low_high (slice_index x 4) (slice_index x 5) (fx 4) (fx 5))
      (low_high (slice_index x 5) (slice_index x 6) (fx 5) (fx 6))
      (low_high (slice_index x 6) (slice_index x 7) (fx 6) (fx 7))
      (low_end (slice_index x 7) (fx 7))
      refl refl

  pub HasWords_second : (n : ℕ) → (n ≡ 16) ⊎ (n ≡ 24) ⊎ (n ≡ 32) → IsSecond n a x
  HasWords_second n cases = elim cases [
    | inl e ↦ subst (λ (m : ℕ). IsSecond m a x) (sym e) second_16
    | inr (inl e) ↦ subst (λ (m : ℕ). IsSecond m a x) (sym e) second_24
    | inr (inr e) ↦ subst (λ (m : ℕ). IsSecond m a x) (sym e) second_32
  ]
