-- Words of 64 bits and their halves, lane by lane.
use Rattle.std.proofs.Common.{◌≡◌, ℕ, ◌<◌, ◌*◌, ◌/◌, ◌%◌, ◌^◌, List, length, slice_index, w32, w64, Fits, map, arith, refl, ap, ◌∙◌, [], ◌∷◌}
use Rattle.std.specs.Simd.Lanes.{zip2, Each1}
use Rattle.std.proofs.lemmas.Simd.{Each1-from_get_or}
use Rattle.sha2.specs.Sha512.{add64}
use Rattle.slh_lanes.specs.LongBlock.{long_word}
use Rattle.slh_lanes.proofs.NLanes.{both, length_with}
use Rattle.slh_lanes.proofs.WordLanes.{IsWords, lane_lt, left, left_lanes, right, right_lanes}

-- a cast of each lane to a wider word, or to one that it fits
same_words : (x : List ℕ) → map (λ (a : ℕ). a) x ≡ x
same_words [] = refl
same_words (n ∷ x) = ap (λ (l : List ℕ). n ∷ l) (same_words x)

low_part : (n : ℕ) → n * 2 ^ 32 % 2 ^ 64 / 2 ^ 32 ≡ n % 2 ^ 32
low_part n = omega arith

low_halves_lanes : (x : List ℕ) → length x ≡ 8 → (j : ℕ) → j < 8 → slice_index (right 8 (left 8 w64 x 32) 32) j ≡ slice_index x j % 2 ^ 32
low_halves_lanes x lx j h =
    right_lanes 8 32 (left 8 w64 x 32) (length_with 8 (λ a m. a * 2 ^ m % 2 ^ 64) x 32 lx) j h
    ∙ ap (λ (n : ℕ). n / 2 ^ 32) (left_lanes 8 w64 32 x lx j h) ∙ low_part (slice_index x j)

-- the halves of words of 64 bits fit words of 32
pub high_words_fit : (x : List ℕ) → IsWords 8 w64 x → Each1 (Fits w32) (right 8 x 32)
high_words_fit x w =
    let long = length_with 8 (λ a n. a / 2 ^ n) x 32 w.0 in
    Each1-from_get_or (Fits w32) _ 0 (λ j lt.
    let lane : j < 8 = omega (arith, long) in
    let below : slice_index x j < 2 ^ 64 = lane_lt 8 w64 x w j lane in
    record { fits = rw (right_lanes 8 32 x w.0 j lane) (omega (arith, below)) })

pub low_words_fit : (x : List ℕ) → length x ≡ 8 → Each1 (Fits w32) (right 8 (left 8 w64 x 32) 32)
low_words_fit x lx =
    let up = length_with 8 (λ a n. a * 2 ^ n % 2 ^ 64) x 32 lx in
    let long = length_with 8 (λ a n. a / 2 ^ n) (left 8 w64 x 32) 32 up in
    Each1-from_get_or (Fits w32) _ 0 (λ j lt.
    let lane : j < 8 = omega (arith, long) in
    record { fits = rw (low_halves_lanes x lx j lane) (omega arith) })

pub high_words_lanes : (x : List ℕ) → length x ≡ 8 → (j : ℕ) → j < 8 → slice_index (map (λ (a : ℕ). a) (right 8 x 32)) j ≡ slice_index x j / 2 ^ 32
high_words_lanes x lx j h = ap (λ (l : List ℕ). slice_index l j) (same_words _) ∙ right_lanes 8 32 x lx j h

pub low_words_lanes : (x : List ℕ) → length x ≡ 8 → (j : ℕ) → j < 8 → slice_index (map (λ (a : ℕ). a) (right 8 (left 8 w64 x 32) 32)) j ≡ slice_index x j % 2 ^ 32
low_words_lanes x lx j h = ap (λ (l : List ℕ). slice_index l j) (same_words _) ∙ low_halves_lanes x lx j h

long_word_sum : (p q : ℕ) → p < 2 ^ 32 → q < 2 ^ 32 → add64 (p * 2 ^ 32 % 2 ^ 64) q ≡ long_word p q
long_word_sum p q fp fq = omega arith

pub long_word_lanes : (p q : List ℕ) → IsWords 8 w32 p → IsWords 8 w32 q → (j : ℕ) → j < 8
    → slice_index (zip2 add64 (left 8 w64 (map (λ (a : ℕ). a) p) 32) (map (λ (a : ℕ). a) q)) j
    ≡ long_word (slice_index p j) (slice_index q j)
long_word_lanes p q wp wq j h =
    (λ i. slice_index (zip2 add64 (left 8 w64 (same_words p i) 32) (same_words q i)) j)
    ∙ rw (both 8 add64 (left 8 w64 p 32) q (length_with 8 (λ a m. a * 2 ^ m % 2 ^ 64) p 32 wp.0) wq.0 j h, left_lanes 8 w64 32 p wp.0 j h)
    (long_word_sum (slice_index p j) (slice_index q j) (lane_lt 8 w32 p wp j h) (lane_lt 8 w32 q wq j h))
