-- The blocks that H hashes where n is 24 or 32 (FIPS 205, section 11.2.2): PK.seed and zeros, then the address and two
-- nodes.
use Rattle.std.specs.Prelude.{◌≡◌, ℕ, ◌+◌, ◌-◌, ◌*◌, ◌^◌, ◌<◌, ◌==◌, if◌then◌else◌, List, [], ◌∷◌, ◌++◌, length, slice_index}
use Rattle.sha2.specs.Sha512.{padding, word_at}
use Rattle.slh_params.specs.Bits.{to_byte}
use Rattle.slh_params.specs.Params.{Params}
use Rattle.slh_lanes.specs.Block.{halves}

-- PK.seed ‖ toByte(0, 128 - n)
abbrev pub long_first_block : Params → List ℕ → List ℕ
long_first_block p pk_seed = pk_seed ++ to_byte 0 (128 - p.n)

-- the block after it: a compressed address of 22 bytes and a value, with the padding of the whole message
abbrev pub long_second_block : List ℕ → List ℕ → List ℕ
long_second_block adrs x = adrs ++ (x ++ padding (150 + length x))

-- the block of bytes b has the words ws of 64 bits
abbrev pub HasLongWords : List ℕ → List ℕ → Type 0
HasLongWords b ws = (k : ℕ) → k < 16 → word_at b (8 * k) ≡ slice_index ws k

-- one word above another
abbrev pub long_word : ℕ → ℕ → ℕ
long_word p q = p * 2 ^ 32 + q

-- the low half of p, q, and the high half of r
abbrev pub long_word_of_halves : ℕ → ℕ → ℕ → ℕ
long_word_of_halves p q r = long_word (halves p q) (halves q r)

-- the words of two nodes of n bytes, the word that begins the padding, and zeros: seventeen words
abbrev pub marked_pair : ℕ → List ℕ → List ℕ → List ℕ
marked_pair n x y =
    if n == 24
    then slice_index x 0 ∷ slice_index x 1 ∷ slice_index x 2 ∷ slice_index x 3 ∷ slice_index x 4 ∷ slice_index x 5
    ∷ slice_index y 0 ∷ slice_index y 1 ∷ slice_index y 2 ∷ slice_index y 3 ∷ slice_index y 4 ∷ slice_index y 5
    ∷ 0x80000000 ∷ 0 ∷ 0 ∷ 0 ∷ 0 ∷ []
    else slice_index x 0 ∷ slice_index x 1 ∷ slice_index x 2 ∷ slice_index x 3 ∷ slice_index x 4 ∷ slice_index x 5
    ∷ slice_index x 6 ∷ slice_index x 7
    ∷ slice_index y 0 ∷ slice_index y 1 ∷ slice_index y 2 ∷ slice_index y 3 ∷ slice_index y 4 ∷ slice_index y 5
    ∷ slice_index y 6 ∷ slice_index y 7
    ∷ 0x80000000 ∷ []
