-- The bytes of words of 64 bits.
use Rattle.std.proofs.Common.{◌≡◌, ℕ, ◌/◌, ◌%◌, ◌^◌, ◌≤◌, List, [], ◌∷◌, ◌++◌, slice_index, take, arith, ap, ◌∙◌, w32, w64}
use Rattle.std.specs.Int.{to_be_bytes}
use Rattle.std.proofs.lemmas.List.{take-take}
use Rattle.sha2.specs.Sha256.{digest_bytes}
use Rattle.sha2.specs.Sha512.{digest_bytes as long_digest_bytes}
use Rattle.slh_lanes.proofs.Halves.{byte}

-- byte i of a word of 64 bits
abbrev long_byte : ℕ → ℕ → ℕ
long_byte n i = slice_index (to_be_bytes w64 n) i

-- the bytes of a word of 64 bits are those of its halves
parted : (n : ℕ) → to_be_bytes w32 (n / 2 ^ 32) ++ to_be_bytes w32 (n % 2 ^ 32) ≡ to_be_bytes w64 n
parted n =
    let b0 : byte (n / 2 ^ 32) 0 ≡ long_byte n 0 = omega arith in
    let b1 : byte (n / 2 ^ 32) 1 ≡ long_byte n 1 = omega arith in
    let b2 : byte (n / 2 ^ 32) 2 ≡ long_byte n 2 = omega arith in
    let b3 : byte (n / 2 ^ 32) 3 ≡ long_byte n 3 = omega arith in
    let b4 : byte (n % 2 ^ 32) 0 ≡ long_byte n 4 = omega arith in
    let b5 : byte (n % 2 ^ 32) 1 ≡ long_byte n 5 = omega arith in
    let b6 : byte (n % 2 ^ 32) 2 ≡ long_byte n 6 = omega arith in
    let b7 : byte (n % 2 ^ 32) 3 ≡ long_byte n 7 = omega arith in
    λ i. b0 i ∷ b1 i ∷ b2 i ∷ b3 i ∷ b4 i ∷ b5 i ∷ b6 i ∷ b7 i ∷ []

-- the words of 32 bits that four of 64 begin with
abbrev pub parts : List ℕ → List ℕ
parts h =
    slice_index h 0 / 2 ^ 32 ∷ slice_index h 0 % 2 ^ 32 ∷ slice_index h 1 / 2 ^ 32 ∷ slice_index h 1 % 2 ^ 32
    ∷ slice_index h 2 / 2 ^ 32 ∷ slice_index h 2 % 2 ^ 32 ∷ slice_index h 3 / 2 ^ 32 ∷ slice_index h 3 % 2 ^ 32 ∷ []

digest_parts : (h : List ℕ) → digest_bytes (parts h) 8 ≡ take 32 (long_digest_bytes h 8)
unfolding digest_bytes long_digest_bytes
digest_parts h =
    let p0 = parted (slice_index h 0) in
    let p1 = parted (slice_index h 1) in
    let p2 = parted (slice_index h 2) in
    let p3 = parted (slice_index h 3) in
    λ i. p0 i ++ (p1 i ++ (p2 i ++ (p3 i ++ [])))

pub take_parts : (h : List ℕ) (n : ℕ) → n ≤ 32 → take n (digest_bytes (parts h) 8) ≡ take n (long_digest_bytes h 8)
take_parts h n le = ap (take n) (digest_parts h) ∙ take-take n 32 (long_digest_bytes h 8) le
