-- Blocks of leaves: what the places of two nodes say of each other.
use Rattle.std.proofs.Common.{◌≡◌, ℕ, suc, ◌+◌, ◌-◌, ◌*◌, ◌/◌, ◌%◌, ◌^◌, ◌<◌, ◌≤◌, inl, inr, arith, sym, ◌∙◌, ap}
use Rattle.std.proofs.Math.Nat.{mul_assoc, mul_comm, pow-suc, mul-le-mul_right, lt_of_mul-lt-mul_right}
use Rattle.std.proofs.Math.Pow.{pow_mono}
use Rattle.std.proofs.lemmas.Nat.{pow_pos, pow-add, shl-shr}
use Rattle.std.proofs.lemmas.Bool.{cases_lt}
use lib.Bits.{shifted_even}
use Rattle.slh_tree.specs.Cover.{first_leaf, past_leaf}

-- equal multiples of a power of two
pub cancel : (a b m : ℕ) → a * 2 ^ m ≡ b * 2 ^ m → a ≡ b
cancel a b m e = sym (shl-shr a m) ∙ ap (λ (x : ℕ). x / 2 ^ m) e ∙ shl-shr b m

-- a multiple of the larger power is one of the smaller
split : (b m d : ℕ) → b * 2 ^ (m + d) ≡ b * 2 ^ d * 2 ^ m
split b m d = ap (λ (x : ℕ). b * x) (pow-add 2 m d ∙ mul_comm (2 ^ m) (2 ^ d)) ∙ sym (mul_assoc b (2 ^ d) (2 ^ m))

-- a multiple of the larger power
pub aligned : (a b m n : ℕ) → m ≤ n → a * 2 ^ m ≡ b * 2 ^ n → a ≡ b * 2 ^ (n - m)
aligned a b m n le e =
    let sum : n ≡ m + (n - m) = omega arith in
    cancel a (b * 2 ^ (n - m)) m (e ∙ ap (λ (k : ℕ). b * 2 ^ k) sum ∙ split b m (n - m))

-- at a lower height its index is even
pub aligned_even : (a b m n : ℕ) → m < n → a * 2 ^ m ≡ b * 2 ^ n → a % 2 ≡ 0
aligned_even a b m n lt e =
    let step : n - m ≡ suc (n - m - 1) = omega arith in
    ap (λ (x : ℕ). x % 2) (aligned a b m n (omega arith) e ∙ ap (λ (k : ℕ). b * 2 ^ k) step) ∙ shifted_even b (n - m - 1)

-- the last leaf and the height fix the node
pub same_past : (z i k : ℕ) → past_leaf z i ≡ past_leaf z k → i ≡ k
same_past z i k e = let s = cancel (i + 1) (k + 1) z e in omega arith

-- a node of height z is over 2 ^ z leaves
pub past-first : (z i : ℕ) → past_leaf z i ≡ first_leaf z i + 2 ^ z
past-first z i = omega arith

-- a node is over some leaf
pub first-lt-past : (z i : ℕ) → first_leaf z i < past_leaf z i
first-lt-past z i = omega (arith, past-first z i, pow_pos z)

-- of two nodes that end together, the higher one begins no later
pub begins_before : (z i w k : ℕ) → past_leaf z i ≡ past_leaf w k → z ≤ w → first_leaf w k ≤ first_leaf z i
begins_before z i w k e le = omega (arith, past-first z i, past-first w k, pow_mono le)

-- of two nodes that end together, the one that begins first is the higher one
pub higher : (z i w k : ℕ) → past_leaf z i ≡ past_leaf w k → first_leaf w k < first_leaf z i → z < w
higher z i w k e lt = elim (cases_lt z w) [ inl h ↦ h | inr h ↦ absurd (let b = begins_before w k z i (sym e) h in omega arith) ]

-- the two halves of a block
pub past_right_half : (z i : ℕ) → past_leaf (suc z) i ≡ past_leaf z (2 * i + 1)
past_right_half z i =
    let halves : (i + 1) * (2 ^ z * 2) ≡ (2 * i + 1 + 1) * 2 ^ z = omega arith in
    ap (λ (x : ℕ). (i + 1) * x) (pow-suc 2 z) ∙ halves

-- the left half begins with the block
pub first_left_half : (z i : ℕ) → first_leaf (suc z) i ≡ first_leaf z (2 * i)
first_left_half z i =
    let halves : i * (2 ^ z * 2) ≡ 2 * i * 2 ^ z = omega arith in
    ap (λ (x : ℕ). i * x) (pow-suc 2 z) ∙ halves

-- a lower block that ends after a block's first leaf, and not after its last one, lies in it
pub lies_inside : (z i j s : ℕ) → j ≤ z → first_leaf z i < past_leaf j s → first_leaf z i ≤ first_leaf j s
lies_inside z i j s le after =
    let sum : z ≡ j + (z - j) = omega arith in
    let at : i * 2 ^ z ≡ i * 2 ^ (z - j) * 2 ^ j = ap (λ (k : ℕ). i * 2 ^ k) sum ∙ split i j (z - j) in
    let below : i * 2 ^ (z - j) < s + 1 = lt_of_mul-lt-mul_right (2 ^ j) (omega (arith, at)) in
    let scaled : i * 2 ^ (z - j) * 2 ^ j ≤ s * 2 ^ j = mul-le-mul_right (2 ^ j) (let k : i * 2 ^ (z - j) ≤ s = omega arith in k) in
    omega (arith, at)

-- a higher block that ends in a block ends with it
pub ends_with : (z i j s : ℕ) → z ≤ j → first_leaf z i < past_leaf j s → past_leaf j s ≤ past_leaf z i → past_leaf j s ≡ past_leaf z i
ends_with z i j s le after within =
    let sum : j ≡ z + (j - z) = omega arith in
    let at : (s + 1) * 2 ^ j ≡ (s + 1) * 2 ^ (j - z) * 2 ^ z = ap (λ (k : ℕ). (s + 1) * 2 ^ k) sum ∙ split (s + 1) z (j - z) in
    let above : i < (s + 1) * 2 ^ (j - z) = lt_of_mul-lt-mul_right (2 ^ z) (omega (arith, at)) in
    let below : (s + 1) * 2 ^ (j - z) < i + 2 = lt_of_mul-lt-mul_right (2 ^ z) (omega (arith, at, past-first z i, pow_pos z)) in
    let same : (s + 1) * 2 ^ (j - z) ≡ i + 1 = omega arith in
    at ∙ ap (λ (m : ℕ). m * 2 ^ z) same
