-- The digits of a checksum in every valid record: they hold the largest checksum, and with the zero bits after them
-- they fill whole bytes.
use Rattle.std.proofs.Common.{◌≡◌, ℕ, zero, suc, ◌+◌, ◌-◌, ◌*◌, ◌/◌, ◌%◌, ◌^◌, ◌<◌, ◌≤◌, ◌⊎◌, inl, inr, List, [], ◌∷◌, length, get_or, map, take, refl, ◌∙◌, lit≤, arith, pow-suc}
use Rattle.std.specs.Prelude.{sum}
use Rattle.std.specs.Int.{div_ceil}
use Rattle.std.specs.Int.Digits.{digits_of}
use Rattle.std.proofs.lemmas.Int.Digits.{number_lt, all_below_base_digits_of, number_digits_of}
use Rattle.std.proofs.lemmas.Grind.{common_steps}
use Rattle.std.proofs.lemmas.List.{length-take-le}
use Rattle.std.proofs.lemmas.Nat.{pow-add}
use Rattle.std.proofs.Math.Nat.{pow-zero, pow-le-pow_right, mul-le-mul}
use Rattle.slh_params.specs.declared.param_set.ParamSet.{ParamSet}
use Rattle.slh_params.specs.ParamSet.{params}
use Rattle.slh_params.specs.Params.{Params, w, len1, len2, ceil_div}
use Rattle.slh_params.proofs.Bounds.{n_cases, lg_w_cases, n_high, len_high, len1_high, len_sum_high, lg_w_low, lg_w_high, w_low, w_high}
use Rattle.slh_few.specs.Wots.{checksum_shift}

-- a power of a power of two
pow-pow : (b k : ℕ) → (2 ^ b) ^ k ≡ 2 ^ (k * b)
pow-pow b zero = let z : 0 * b ≡ 0 = omega arith in rw (z, pow-zero (2 ^ b)) refl
pow-pow b (suc k) =
    let e : suc k * b ≡ k * b + b = omega arith in
    rw (e, pow-add 2 (k * b) b, pow-suc (2 ^ b) k, pow-pow b k) refl

-- the digits hold the largest checksum
pub checksum_room : (s : ParamSet) → (w (params s) - 1) * len1 (params s) < 2 ^ (len2 (params s) * (params s).lg_w)
checksum_room s =
    let p = params s in
    let most = len1 p * (w p - 1) in
    let base : 2 ≤ w p = omega (arith, w_low s) in
    let below : most < w p ^ len2 p =
    rw (number_digits_of (w p) most base) at (number_lt (w p) (digits_of (w p) most) (all_below_base_digits_of (w p) most base)) in
    omega (arith, below, pow-pow p.lg_w (len2 p))

-- bits and the zero bits after them fill whole bytes
whole : (x : ℕ) → x + (8 - x % 8) % 8 ≡ 8 * ((x + 8 - 1) / 8)
whole x = omega arith

pub checksum_whole : (s : ParamSet) → len2 (params s) * (params s).lg_w + checksum_shift (params s) ≡ 8 * ceil_div (len2 (params s) * (params s).lg_w) 8
checksum_whole s = whole (len2 (params s) * (params s).lg_w)

-- at most two bytes
bits_high : (p : Params) → (p.n ≡ 16) ⊎ (p.n ≡ 24) ⊎ (p.n ≡ 32) → (p.lg_w ≡ 2) ⊎ (p.lg_w ≡ 4) ⊎ (p.lg_w ≡ 8) → len2 p * p.lg_w ≤ 16
bits_high p (inl e) (inl f) = rw (e, f) (lit≤ tt)
bits_high p (inl e) (inr (inl f)) = rw (e, f) (lit≤ tt)
bits_high p (inl e) (inr (inr f)) = rw (e, f) (lit≤ tt)
bits_high p (inr (inl e)) (inl f) = rw (e, f) (lit≤ tt)
bits_high p (inr (inl e)) (inr (inl f)) = rw (e, f) (lit≤ tt)
bits_high p (inr (inl e)) (inr (inr f)) = rw (e, f) (lit≤ tt)
bits_high p (inr (inr e)) (inl f) = rw (e, f) (lit≤ tt)
bits_high p (inr (inr e)) (inr (inl f)) = rw (e, f) (lit≤ tt)
bits_high p (inr (inr e)) (inr (inr f)) = rw (e, f) (lit≤ tt)

pub checksum_bits_high : (s : ParamSet) → len2 (params s) * (params s).lg_w ≤ 16
checksum_bits_high s = bits_high (params s) (n_cases s) (lg_w_cases s)

-- the bytes, counted as a program rounds up
whole_bytes : (x : ℕ) → div_ceil x 8 ≡ ceil_div x 8
whole_bytes x = omega arith

pub checksum_size : (s : ParamSet) (l b r : ℕ) → l ≡ len2 (params s) → b ≡ (params s).lg_w → r ≡ div_ceil (l * b) 8
    → r ≡ ceil_div (len2 (params s) * (params s).lg_w) 8
checksum_size s l b r el eb er = er ∙ rw (el, eb) (whole_bytes (len2 (params s) * (params s).lg_w))

pub checksum_two : (s : ParamSet) (l b r : ℕ) → l ≡ len2 (params s) → b ≡ (params s).lg_w → r ≡ div_ceil (l * b) 8 → r ≤ 2
checksum_two s l b r el eb er = omega (arith, checksum_size s l b r el eb er, checksum_bits_high s)

-- the front of two bytes that they take
pub checksum_space : (s : ParamSet) (l b r : ℕ) → l ≡ len2 (params s) → b ≡ (params s).lg_w → r ≡ div_ceil (l * b) 8
    → length {A = ℕ} (take r (0 ∷ 0 ∷ [])) ≡ ceil_div (len2 (params s) * (params s).lg_w) 8
checksum_space s l b r el eb er = length-take-le r (0 ∷ 0 ∷ []) (checksum_two s l b r el eb er) ∙ checksum_size s l b r el eb er

-- a checksum of 15 bits is shifted without loss
pub shifted_fits : (s : ParamSet) (c : ℕ) → c ≤ 32640 → c * 2 ^ checksum_shift (params s) < 4294967296
shifted_fits s c h =
    let few : checksum_shift (params s) ≤ 7 = omega arith in
    let up : 2 ^ checksum_shift (params s) ≤ 2 ^ 7 = pow-le-pow_right {n = 2} (lit≤ tt) few in
    let all : c * 2 ^ checksum_shift (params s) ≤ 32640 * 2 ^ 7 = mul-le-mul h up in
    omega (arith, all)

-- one digit more
pub checksum-more : (last sum_so_far i : ℕ) (ds : List ℕ) → i < length ds → sum_so_far ≡ sum (map (λ d. last - d) (take i ds))
    → sum_so_far + (last - get_or ds i 0) ≡ sum (map (λ d. last - d) (take (i + 1) ds))
checksum-more last sum_so_far i ds h e = grind (arith, common_steps)

-- what digits and chains keep to
pub ruleset digit_bounds = (len1_high, len_sum_high, lg_w_low, lg_w_high, w_high, checksum_bits_high)

pub ruleset chain_bounds = (n_high, len_high, w_high)
