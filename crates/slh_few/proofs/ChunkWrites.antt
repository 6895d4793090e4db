-- One chunk of bytes written: the chunk, and the others.
use Rattle.std.proofs.Common.{◌≡◌, ◌≢◌, ℕ, zero, suc, ◌+◌, ◌*◌, ◌<◌, ◌≤◌, List, ◌++◌, length, take, drop, inl, inr, ap, ap₂, sym, ◌∙◌, arith}
use Rattle.std.proofs.lemmas.Bool.{cases_lt}
use Rattle.std.proofs.lemmas.List.{drop-take, drop_at, length-take-le, take_all, take_at}
use Rattle.std.proofs.lemmas.Slice.{drop-put_mid, take-put_mid_below}
use Rattle.std.proofs.Math.Nat.{mul-le-mul_right}
use borrow.Rule.Slice.PartMut.{post_of, put_mid}
use Rattle.slh_few.specs.Chunks.{end_to_end, chunk}
use Rattle.slh_few.proofs.Ends.{take-chunk_more}

pub chunk-written : (n c : ℕ) (xs ys : List ℕ) → c * n + n ≤ length xs → length ys ≡ n → chunk n (put_mid (c * n) n xs ys) c ≡ ys
chunk-written n c xs ys room long =
    let front : length (take (c * n) xs) ≡ c * n = length-take-le (c * n) xs (omega (arith, room)) in
    ap (take n) (drop_at (take (c * n) xs) (ys ++ post_of (c * n) n xs) (c * n) front) ∙ take_at ys (post_of (c * n) n xs) n long

pub chunk-others : (n c d : ℕ) (xs ys : List ℕ) → c * n + n ≤ length xs → length ys ≡ n → d ≢ c → chunk n (put_mid (c * n) n xs ys) d ≡ chunk n xs d
chunk-others n c d xs ys room long other = elim (cases_lt d c) [
  | inl below ↦
      let up : (d + 1) * n ≤ c * n = mul-le-mul_right n (let le : d + 1 ≤ c = omega arith in le) in
      let end : d * n + n ≤ c * n = omega (arith, up) in
      sym (drop-take (d * n) n (put_mid (c * n) n xs ys))
      ∙ ap (drop (d * n)) (take-put_mid_below (c * n) n xs ys (d * n + n) end (omega (arith, room)))
      ∙ drop-take (d * n) n xs
  | inr ge ↦
      let up : (c + 1) * n ≤ d * n = mul-le-mul_right n (let le : c + 1 ≤ d = omega arith in le) in
      ap (take n) (drop-put_mid (c * n) n xs ys (d * n) (omega (arith, up)) (omega (arith, room)) long)
]

-- bytes whose chunks these are
front_chunks : (f : ℕ → List ℕ) (n k : ℕ) (xs : List ℕ) → ((c : ℕ) → c < k → chunk n xs c ≡ f c) → take (k * n) xs ≡ end_to_end f k
unfolding end_to_end
front_chunks f n zero xs h = let e : 0 * n ≡ 0 = omega arith in ap (λ m. take m xs) e
front_chunks f n (suc k) xs h =
    let more : suc k * n ≡ (k + 1) * n = omega arith in
    ap (λ m. take m xs) more ∙ take-chunk_more n xs k
    ∙ ap₂ (λ a b. a ++ b) (front_chunks f n k xs (λ c l. h c (omega arith))) (h k (omega arith))

pub all_chunks : (f : ℕ → List ℕ) (n k : ℕ) (xs : List ℕ) → length xs ≡ k * n → ((c : ℕ) → c < k → chunk n xs c ≡ f c) → xs ≡ end_to_end f k
all_chunks f n k xs long h = sym (take_all (k * n) xs (omega (arith, long))) ∙ front_chunks f n k xs h

-- one of so many chunks is within them
pub chunk_within : (c n count size : ℕ) → c < count → size ≡ count * n → c * n + n ≤ size
chunk_within c n count size lt e =
    let up : (c + 1) * n ≤ count * n = mul-le-mul_right n (let le : c + 1 ≤ count = omega arith in le) in
    omega (arith, up, e)
