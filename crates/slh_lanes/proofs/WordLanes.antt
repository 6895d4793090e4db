-- Functions of words of a width, lane by lane.
use Rattle.std.proofs.Common.{◌≡◌, ℕ, ◌<◌, ◌*◌, ◌/◌, ◌%◌, ◌^◌, List, length, slice_index, replicate, bit_and, w32, Fits, ◌∙◌}
use Rattle.std.specs.Int.{Width}
use Rattle.std.specs.Simd.Lanes.{zip2, Each1}
use Rattle.std.proofs.lemmas.Nat.{and_mask}
use Rattle.sha2.specs.Sha256.{add32}
use Rattle.slh_lanes.specs.Block.{halves}
use Rattle.slh_lanes.proofs.NLanes.{both, fits, length_with, with_splat}
use mir.Val.{bits}

-- each of n lanes shifted right by a number of bits, and left
abbrev pub right : ℕ → List ℕ → ℕ → List ℕ
right n x k = zip2 (λ a m. a / 2 ^ m) x (replicate n k)

abbrev pub left : ℕ → Width → List ℕ → ℕ → List ℕ
left n w x k = zip2 (λ a m. a * 2 ^ m % 2 ^ bits w) x (replicate n k)

pub right_lanes : (n k : ℕ) (x : List ℕ) → length x ≡ n → (j : ℕ) → j < n → slice_index (right n x k) j ≡ slice_index x j / 2 ^ k
right_lanes n k x lx j h = with_splat n (λ a m. a / 2 ^ m) x k lx j h

pub left_lanes : (n : ℕ) (w : Width) (k : ℕ) (x : List ℕ) → length x ≡ n → (j : ℕ) → j < n
    → slice_index (left n w x k) j ≡ slice_index x j * 2 ^ k % 2 ^ bits w
left_lanes n w k x lx j h = with_splat n (λ a m. a * 2 ^ m % 2 ^ bits w) x k lx j h

-- the lanes of a vector of n words of a width
abbrev pub IsWords : ℕ → Width → List ℕ → Type 0
IsWords n w x = (length x ≡ n) × Each1 (Fits w) x

pub lane_lt : (n : ℕ) (w : Width) (x : List ℕ) → IsWords n w x → (j : ℕ) → j < n → slice_index x j < 2 ^ bits w
lane_lt n w x words j h = fits w n x words.0 words.1 j h

pub halves_lanes : (n : ℕ) (p q : List ℕ) → length p ≡ n → length q ≡ n → (j : ℕ) → j < n
    → slice_index (zip2 add32 (left n w32 p 16) (right n q 16)) j ≡ halves (slice_index p j) (slice_index q j)
halves_lanes n p q lp lq j h =
    both n add32 (left n w32 p 16) (right n q 16) (length_with n (λ a m. a * 2 ^ m % 2 ^ 32) p 16 lp) (length_with n (λ a m. a / 2 ^ m) q 16 lq) j h
    ∙ (λ i. add32 (left_lanes n w32 16 p lp j h i) (right_lanes n 16 q lq j h i))

-- whether a word is odd
pub parity_lanes : (n : ℕ) (x : List ℕ) → length x ≡ n → (j : ℕ) → j < n → slice_index (zip2 bit_and x (replicate n 1)) j ≡ slice_index x j % 2
parity_lanes n x lx j h = with_splat n bit_and x 1 lx j h ∙ and_mask (slice_index x j) 1
