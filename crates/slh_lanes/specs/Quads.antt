-- Four rounds of SHA-256 and four words of its schedule at a time (ours, over FIPS 180-4, section 6.2.2).
use Rattle.std.specs.Prelude.{◌≡◌, ℕ, ◌+◌, ◌*◌, ◌<◌, List, [], ◌∷◌, slice_index}
use Rattle.std.specs.Int.{w32}
use Rattle.sha2.specs.Sha256.{big_sigma0, big_sigma1, small_sigma0, small_sigma1, word_at}
use Rattle.slh_lanes.specs.Sha2.{plus, round}

-- the eight words of two quads
abbrev pub eight : List ℕ → List ℕ → List ℕ
eight a e =
    slice_index a 0 ∷ slice_index a 1 ∷ slice_index a 2 ∷ slice_index a 3
    ∷ slice_index e 0 ∷ slice_index e 1 ∷ slice_index e 2 ∷ slice_index e 3 ∷ []

-- a round with the sum of its constant and its word
abbrev pub sum_round : List ℕ → ℕ → List ℕ
sum_round v x = round w32 big_sigma0 big_sigma1 v 0 x

-- four of these rounds
abbrev pub four_rounds : List ℕ → List ℕ → List ℕ
four_rounds v x =
    sum_round (sum_round (sum_round (sum_round v (slice_index x 0)) (slice_index x 1)) (slice_index x 2)) (slice_index x 3)

-- a word of the schedule from those 2, 7, 15 and 16 before it
abbrev pub word_after : ℕ → ℕ → ℕ → ℕ → ℕ
word_after p q r s = plus w32 (plus w32 (plus w32 (small_sigma1 p) q) (small_sigma0 r)) s

-- the four words of the schedule after sixteen
abbrev pub next_words : List ℕ → List ℕ → List ℕ → List ℕ → List ℕ
next_words w0 w1 w2 w3 =
    let x0 = word_after (slice_index w3 2) (slice_index w2 1) (slice_index w0 1) (slice_index w0 0) in
    let x1 = word_after (slice_index w3 3) (slice_index w2 2) (slice_index w0 2) (slice_index w0 1) in
    let x2 = word_after x0 (slice_index w2 3) (slice_index w0 3) (slice_index w0 2) in
    let x3 = word_after x1 (slice_index w3 0) (slice_index w1 0) (slice_index w0 3) in
    x0 ∷ x1 ∷ x2 ∷ x3 ∷ []

-- a quad has the four words from place t on
abbrev pub IsQuadAt : List ℕ → List ℕ → ℕ → Type 0
IsQuadAt ws w t = (j : ℕ) → j < 4 → slice_index w j ≡ slice_index ws (t + j)

-- a quad has four words of a block of bytes
abbrev pub HasQuad : List ℕ → List ℕ → ℕ → Type 0
HasQuad b w t = (j : ℕ) → j < 4 → slice_index w j ≡ word_at b (4 * (t + j))
