-- Two rounds of SHA-512 and two words of its schedule at a time (ours, over FIPS 180-4, section 6.4.2).
use Rattle.std.specs.Prelude.{ℕ, List, [], ◌∷◌, slice_index}
use Rattle.std.specs.Int.{w64}
use Rattle.sha2.specs.Sha512.{big_sigma0, big_sigma1, small_sigma0, small_sigma1}
use Rattle.slh_lanes.specs.Sha2.{plus, round}

-- the eight words of four pairs
abbrev pub eight : List ℕ → List ℕ → List ℕ → List ℕ → List ℕ
eight ab cd ef gh =
    slice_index ab 0 ∷ slice_index ab 1 ∷ slice_index cd 0 ∷ slice_index cd 1
    ∷ slice_index ef 0 ∷ slice_index ef 1 ∷ slice_index gh 0 ∷ slice_index gh 1 ∷ []

-- a round with the sum of its constant and its word
abbrev pub sum_round : List ℕ → ℕ → List ℕ
sum_round v x = round w64 big_sigma0 big_sigma1 v 0 x

-- two of these rounds
abbrev pub two_rounds : List ℕ → List ℕ → List ℕ
two_rounds v x = sum_round (sum_round v (slice_index x 0)) (slice_index x 1)

-- a word of the schedule from those 2, 7, 15 and 16 before it
abbrev pub word_after : ℕ → ℕ → ℕ → ℕ → ℕ
word_after p q r s = plus w64 (plus w64 (plus w64 (small_sigma1 p) q) (small_sigma0 r)) s

-- the two words of the schedule after sixteen, from the pairs of these that begin with words 0, 2, 9 and 14
abbrev pub next_pair : List ℕ → List ℕ → List ℕ → List ℕ → List ℕ
next_pair w0 w2 w9 w14 =
    word_after (slice_index w14 0) (slice_index w9 0) (slice_index w0 1) (slice_index w0 0)
    ∷ word_after (slice_index w14 1) (slice_index w9 1) (slice_index w2 0) (slice_index w0 1) ∷ []
