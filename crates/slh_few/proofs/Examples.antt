-- Worked examples of the definitions, by computing: the digits of checksums where lg_w is 2 or 8.
use Rattle.std.proofs.Common.{◌≡◌, ℕ, List, [], ◌∷◌, replicate, drop, refl}
use Rattle.slh_params.specs.Bits.{base_2b}
use Rattle.slh_params.specs.Params.{Params, len1}
use Rattle.slh_few.specs.Wots.{digits}

-- a record of which only n and lg_w matter here
with_digits : ℕ → ℕ → Params
with_digits n lg_w = record { n = n; lg_w = lg_w; hp = 1; d = 1; a = 1; k = 1 }

-- the digits of a message's checksum
last_digits : ℕ → ℕ → List ℕ → List ℕ
last_digits n lg_w m = drop (len1 (with_digits n lg_w)) (digits (with_digits n lg_w) m)

zeros_16_2 : last_digits 16 2 (replicate 16 0) ≡ 3 ∷ 0 ∷ 0 ∷ 0 ∷ []
unfolding last_digits with_digits digits base_2b
zeros_16_2 = refl

zeros_24_2 : last_digits 24 2 (replicate 24 0) ≡ 1 ∷ 0 ∷ 2 ∷ 0 ∷ 0 ∷ []
unfolding last_digits with_digits digits base_2b
zeros_24_2 = refl

zeros_32_2 : last_digits 32 2 (replicate 32 0) ≡ 1 ∷ 2 ∷ 0 ∷ 0 ∷ 0 ∷ []
unfolding last_digits with_digits digits base_2b
zeros_32_2 = refl

zeros_16_8 : last_digits 16 8 (replicate 16 0) ≡ 15 ∷ 240 ∷ []
unfolding last_digits with_digits digits base_2b
zeros_16_8 = refl

zeros_24_8 : last_digits 24 8 (replicate 24 0) ≡ 23 ∷ 232 ∷ []
unfolding last_digits with_digits digits base_2b
zeros_24_8 = refl

zeros_32_8 : last_digits 32 8 (replicate 32 0) ≡ 31 ∷ 224 ∷ []
unfolding last_digits with_digits digits base_2b
zeros_32_8 = refl

counted_16_8 : last_digits 16 8 (0 ∷ 1 ∷ 2 ∷ 3 ∷ 4 ∷ 5 ∷ 6 ∷ 7 ∷ 8 ∷ 9 ∷ 10 ∷ 11 ∷ 12 ∷ 13 ∷ 14 ∷ 15 ∷ []) ≡ 15 ∷ 120 ∷ []
unfolding last_digits with_digits digits base_2b
counted_16_8 = refl
