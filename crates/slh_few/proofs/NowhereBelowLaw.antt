-- No other message has digits that are nowhere below those of a message.
use Rattle.std.proofs.Common.{◌≡◌, ℕ, ◌+◌, ◌-◌, ◌*◌, ◌^◌, ◌<◌, ◌≤◌, List, [], ◌∷◌, ◌++◌, length, get_or, sym, ap, ◌∙◌, arith, inl, inr}
use Rattle.std.specs.List.{sum_by}
use Rattle.std.specs.Int.Digits.{number_from_digits}
use Rattle.std.proofs.lemmas.Bool.{cases_lt}
use Rattle.std.proofs.lemmas.List.{take_all, get_or_past, get_or_append_left, get_or-append-add}
use Rattle.std.proofs.lemmas.List.Sums.{sum-map, sum_by-cons}
use Rattle.std.proofs.lemmas.Nat.{pow_pos}
use Rattle.slh_params.specs.Bits.{AllBytes}
use Rattle.slh_params.specs.ParamSet.{params}
use Rattle.slh_params.specs.Params.{w, len1, len2, ceil_div}
use Rattle.slh_params.specs.declared.param_set.ParamSet.{ParamSet}
use Rattle.slh_params.proofs.Windows.{window}
use Rattle.slh_params.proofs.Groups.{length-base_2b, base_2b-digit}
use Rattle.slh_few.specs.Wots.{NowhereBelow, digits, message_digits, checksum, checksum_digits, checksum_shift}
use Rattle.slh_params.proofs.Bounds.{len1_exact}
use Rattle.slh_few.proofs.Checksum.{checksum_whole, checksum_room}
use Rattle.slh_few.proofs.NowhereBelow.{base_2b-number, bytes-number, same_bytes, same_digits, larger_number, checksum_number}

-- nowhere below, of the fronts
fronts : (xs ys cs ds : List ℕ) → length xs ≡ length ys → NowhereBelow (xs ++ cs) (ys ++ ds) → NowhereBelow xs ys
fronts xs ys cs ds l h = λ c. elim (cases_lt c (length ys)) [
  | inl i ↦ omega (arith, h c, get_or_append_left xs cs 0 c (let j : c < length xs = omega arith in j), get_or_append_left ys ds 0 c i)
  | inr g ↦ let e : get_or ys c 0 ≡ 0 = get_or_past ys c 0 g in omega (arith, e)
]

-- and of the backs
backs : (xs ys cs ds : List ℕ) → length xs ≡ length ys → NowhereBelow (xs ++ cs) (ys ++ ds) → NowhereBelow cs ds
backs xs ys cs ds l h = λ c.
    let e : get_or (ys ++ ds) (length xs + c) 0 ≡ get_or ds c 0 = ap (λ k. get_or (ys ++ ds) (k + c) 0) l ∙ get_or-append-add ys ds c 0 in
    omega (arith, h (length xs + c), get_or-append-add xs cs c 0, e)

-- a checksum is at most w - 1 times the number of digits
sum_small : (W : ℕ) (ds : List ℕ) → sum_by (λ d. W - d) ds ≤ W * length ds
sum_small W [] = omega arith
sum_small W (d ∷ ds) = omega (arith, sum_by-cons (λ d. W - d) d ds, sum_small W ds)

-- a message's digits write the number that its bytes write
number_is : (s : ParamSet) (m : List ℕ) → length m ≡ (params s).n → AllBytes m
    → number_from_digits (2 ^ (params s).lg_w) (message_digits (params s) m) ≡ number_from_digits 256 m
number_is s m l a =
    let p = params s in
    let e : len1 p * p.lg_w ≡ 8 * length m = len1_exact s ∙ ap (λ k. 8 * k) (sym l) in
    base_2b-number m p.lg_w (len1 p) (omega (arith, e)) ∙ ap (window m 0) e ∙ bytes-number m (length m) a (omega arith)
    ∙ ap (number_from_digits 256) (take_all (length m) m (omega arith))

-- no other message has digits that are nowhere below
pub no_other_message : (s : ParamSet) (m o : List ℕ) → length m ≡ (params s).n → length o ≡ (params s).n → AllBytes m → AllBytes o
    → NowhereBelow (digits (params s) o) (digits (params s) m) → o ≡ m
unfolding digits
no_other_message s m o lm lo am ao h =
    let p = params s in
    let W = w p - 1 in
    let A = message_digits p o in
    let B = message_digits p m in
    let la : length A ≡ len1 p = length-base_2b o p.lg_w (len1 p) in
    let lb : length B ≡ len1 p = length-base_2b m p.lg_w (len1 p) in
    let l : length A ≡ length B = la ∙ sym lb in
    let ca = checksum p A in
    let cb = checksum p B in
    let C = checksum_digits p ca in
    let D = checksum_digits p cb in
    let front = fronts A B C D l h in
    let back = backs A B C D l h in
    let lc : length C ≡ len2 p = length-base_2b _ p.lg_w (len2 p) in
    let ld : length D ≡ len2 p = length-base_2b _ p.lg_w (len2 p) in
    let ka : ca ≡ sum_by (λ d. W - d) A = sum-map (λ d. W - d) A in
    let kb : cb ≡ sum_by (λ d. W - d) B = sum-map (λ d. W - d) B in
    let ma : W * length A ≡ W * len1 p = ap (λ k. W * k) la in
    let mb : W * length B ≡ W * len1 p = ap (λ k. W * k) lb in
    let ra : ca < 2 ^ (len2 p * p.lg_w) = omega (arith, ka, sum_small W A, ma, checksum_room s) in
    let rb : cb < 2 ^ (len2 p * p.lg_w) = omega (arith, kb, sum_small W B, mb, checksum_room s) in
    let na : number_from_digits (2 ^ p.lg_w) C ≡ ca = checksum_number ca p.lg_w (len2 p) (checksum_shift p) (ceil_div (len2 p * p.lg_w) 8) (checksum_whole s) ra in
    let nb : number_from_digits (2 ^ p.lg_w) D ≡ cb = checksum_number cb p.lg_w (len2 p) (checksum_shift p) (ceil_div (len2 p * p.lg_w) 8) (checksum_whole s) rb in
    let up = larger_number (2 ^ p.lg_w) C D (lc ∙ sym ld) back in
    let less : sum_by (λ d. W - d) B ≤ sum_by (λ d. W - d) A = omega (arith, up, na, nb, ka, kb) in
    let pos = pow_pos p.lg_w in
    let same : A ≡ B = same_digits W A B l front (λ c. omega (arith, base_2b-digit o p.lg_w (len1 p) c, pos)) less in
    same_bytes o m (lo ∙ sym lm) ao am (sym (number_is s o lo ao) ∙ ap (number_from_digits (2 ^ p.lg_w)) same ∙ number_is s m lm am)
