-- How many digits a number has (FIPS 205, section 5, Algorithm 1).
use Rattle.std.proofs.Common.{◌≡◌, ℕ, zero, suc, ◌-◌, ◌^◌, ◌<◌, ◌≤◌, length, arith, sym, inl, inr}
use Rattle.std.specs.Int.Digits.{digits_of}
use Rattle.std.proofs.lemmas.Int.Digits.{length-digits_of-le, number_lt, all_below_base_digits_of, number_digits_of}
use Rattle.std.proofs.lemmas.Bool.{cases_lt}
use Rattle.std.proofs.Math.Nat.{pow-le-pow_right, pow-suc, pow-zero}
use native.Mathlib.Numerals.{unary_clauses}

pub digit_count_is : (b n k : ℕ) → 2 ≤ b → b ^ k ≤ n → n < b ^ suc k → length (digits_of b n) ≡ suc k
digit_count_is b n k h low high =
    let up : length (digits_of b n) ≤ suc k = length-digits_of-le b (suc k) n h high in
    let lt : n < b ^ length (digits_of b n) = rw (number_digits_of b n h) at (number_lt b (digits_of b n) (all_below_base_digits_of b n h)) in
    elim (cases_lt (length (digits_of b n)) (suc k)) [
      | inl l ↦
          let m : length (digits_of b n) ≤ k = omega arith in
          let p : b ^ length (digits_of b n) ≤ b ^ k = pow-le-pow_right {n = b} (omega arith) m in
          absurd (omega (arith, p, lt, low))
      | inr g ↦ omega arith
    ]

pub pow_one : (b : ℕ) → b ≡ b ^ 1
pow_one b = rw (pow-suc b 0, pow-zero b) (omega arith)

pub pow_none : (b n : ℕ) → 1 ≤ n → b ^ 0 ≤ n
pow_none b n h = simp unary_clauses h

pub digit_count_done : (b n count capacity : ℕ) → 2 ≤ b → 1 ≤ count → capacity ≡ b ^ count → b ^ (count - 1) ≤ n → n < capacity
    → count ≡ length (digits_of b n)
digit_count_done b n zero capacity h s e l t = absurd (omega (arith, s))
digit_count_done b n (suc k) capacity h s e l t =
    let z : suc k - 1 ≡ k = omega arith in
    sym (digit_count_is b n k h (rw z at l) (rw e at t))
