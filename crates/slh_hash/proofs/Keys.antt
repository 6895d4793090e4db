-- Parts put end to end, and the blocks of MGF1.
use Rattle.std.proofs.Common.{◌≡◌, ℕ, ◌+◌, ◌-◌, ◌*◌, ◌/◌, ◌%◌, ◌<◌, ◌≤◌, min, List, [], ◌∷◌, ◌++◌, length, take, drop, refl, sym, ap, ◌∙◌, arith, get_or, length-append, zero, suc, add-one, inl, inr}
use Rattle.std.specs.Borrow.{Bor}
use Rattle.std.proofs.lemmas.List.{take_more, append-nil, take_at, take_all, length-take-le, length-drop, nil_from_length, drop_at}
use Rattle.std.proofs.Math.Seq.{take-add}
use Rattle.std.proofs.lemmas.Bool.{cases_lt}
use Rattle.std.proofs.lemmas.Grind.{div_ceil_times}
use Rattle.std.proofs.Math.Nat.{div-eq_of_lt-le}
use borrow.Rule.Slice.PartMut.{put_mid}
use Rattle.slh_params.specs.Params.{ceil_div}
use Rattle.std.proofs.lemmas.List.Concat.{flat_map-append}
use Rattle.slh_params.specs.Bits.{to_byte}
use Rattle.slh_hash.specs.HashFunctions.{HashFunction, IsSized}
use Rattle.slh_hash.specs.Keyed.{joined, mgf1_blocks, mgf1}

pub joined_more : (parts : List (Bor (List ℕ))) (i : ℕ) (p : Bor (List ℕ)) → i < length parts
    → joined (take (i + 1) parts) ≡ joined (take i parts) ++ (get_or parts i p).now
joined_more parts i p h =
    rw (take_more parts i p h, flat_map-append (λ (q : Bor (List ℕ)). q.now) (take i parts) (get_or parts i p ∷ []), append-nil) refl

-- so many blocks have so many bytes
length-mgf1_blocks : (f : HashFunction) → IsSized f → (seed : List ℕ) (count : ℕ) → length (mgf1_blocks f seed count) ≡ f.size * count
length-mgf1_blocks f h seed zero = omega arith
length-mgf1_blocks f h seed (suc count) =
    omega (arith, length-mgf1_blocks f h seed count, length-append (mgf1_blocks f seed count) (f.hash (seed ++ to_byte count 4)), h.digests (seed ++ to_byte count 4))

-- ---- a block more of MGF1

take_after : (n : ℕ) (xs ys : List ℕ) (a : ℕ) → length xs ≡ a → take (a + n) (xs ++ ys) ≡ xs ++ take n ys
take_after n xs ys a e = take-add a n (xs ++ ys) ∙ rw (take_at xs ys a e, drop_at xs ys a e) refl

block_fits : (size k left : ℕ) (d new rest : List ℕ) → length d ≡ size → k ≡ min left size → new ≡ take k d
    → length rest ≡ left - k → take size (new ++ rest) ≡ take left d
block_fits size k left d new rest e f q r = elim (cases_lt left size) [
  | inl l ↦
      let m : k ≡ left = omega arith in
      let z : rest ≡ [] = nil_from_length rest (omega arith) in
      let n : new ≡ take left d = q ∙ ap (λ j. take j d) m in
      rw (z, append-nil, n) (take_all size (take left d) (omega (arith, length-take-le left d (omega arith))))
  | inr g ↦
      let m : k ≡ size = omega arith in
      let n : new ≡ d = q ∙ take_all k d (omega arith) in
      rw n (take_at d rest size e ∙ sym (take_all left d (omega arith)))
]

pub mgf1_more : (f : HashFunction) → IsSized f → (seed out new d : List ℕ) (c k : ℕ)
    → f.size * c < length out → take (f.size * c) out ≡ take (length out) (mgf1_blocks f seed c)
    → d ≡ f.hash (seed ++ to_byte c 4) → k ≡ min (length out - f.size * c) f.size → new ≡ take k d
    → take (f.size * (c + 1)) (put_mid (f.size * c) k out new) ≡ take (length (put_mid (f.size * c) k out new)) (mgf1_blocks f seed (c + 1))
mgf1_more f h seed out new d c k l inv e q n =
    let size : ℕ = f.size in
    let A : List ℕ = mgf1_blocks f seed c in
    let a : ℕ = size * c in
    let la : length A ≡ a = length-mgf1_blocks f h seed c in
    let ld : length d ≡ size = ap length e ∙ h.digests _ in
    let whole : take a out ≡ A = inv ∙ take_all (length out) A (omega arith) in
    let rest : List ℕ = drop k (drop a out) in
    let lr : length rest ≡ (length out - a) - k = omega (arith, length-drop k (drop a out), length-drop a out) in
    let ln : length new ≡ k = ap length n ∙ length-take-le k d (omega arith) in
    let all : length (put_mid a k out new) ≡ a + (length out - a) = omega (arith, length-append (take a out) (new ++ rest), length-append new rest, ap length whole) in
    let s : size * (c + 1) ≡ a + size = omega arith in
    let left : take (a + size) (A ++ (new ++ rest)) ≡ A ++ take size (new ++ rest) = take_after size A (new ++ rest) a la in
    let right : take (a + (length out - a)) (A ++ d) ≡ A ++ take (length out - a) d = take_after (length out - a) A d a la in
    let mid : take size (new ++ rest) ≡ take (length out - a) d = block_fits size k (length out - a) d new rest ld q n lr in
    rw (s, all, whole, left, mid, add-one c, ← e) (sym right)

pub mgf1_done : (f : HashFunction) (seed out : List ℕ) (c count : ℕ) → count ≤ c → c ≤ count → count ≡ ceil_div (length out) f.size → length out ≤ f.size * count
    → take (f.size * c) out ≡ take (length out) (mgf1_blocks f seed c) → out ≡ mgf1 f seed (length out)
unfolding mgf1
mgf1_done f seed out c count p q e h inv =
    let m : c ≡ count = omega arith in
    let t : take (f.size * count) out ≡ out = take_all (f.size * count) out h in
    let i : take (f.size * count) out ≡ take (length out) (mgf1_blocks f seed count) = rw m at inv in
    rw (← e) (sym t ∙ i)

-- the quotient rounded up, as std has it
pub rounded_up : (a b : ℕ) → 0 < b → a / b + min 1 (a % b) ≡ ceil_div a b
rounded_up a b h =
    let k : ℕ = a / b + min 1 (a % b) in
    let t = div_ceil_times a b h in
    let low : k * b ≤ a + b - 1 = omega (arith, t.1) in
    let high : a + b - 1 < (k + 1) * b = omega (arith, t.0) in
    sym (div-eq_of_lt-le b low high)
