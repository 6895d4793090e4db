-- No other message has digits that are nowhere below those of a message.
use Rattle.std.proofs.Common.{◌≡◌, ℕ, zero, suc, ◌+◌, ◌-◌, ◌*◌, ◌^◌, ◌<◌, ◌≤◌, List, [], ◌∷◌, length, get_or, take, refl, sym, ap, ◌∙◌, arith, inl, inr, pow-suc, mul-le-mul_right, add-one, mod-eq_of_lt, mul-lt-mul_of_pos_right}
use Rattle.std.specs.List.{sum_by}
use Rattle.std.specs.Int.Digits.{number_from_digits, number_from_digits_after}
use Rattle.std.proofs.lemmas.Bool.{cases_lt}
use Rattle.std.proofs.lemmas.List.{take_all}
use Rattle.std.proofs.lemmas.List.Elements.{All-drop, recursion_from_All}
use Rattle.std.proofs.lemmas.List.Sums.{sum_by-cons}
use Rattle.std.proofs.lemmas.Int.Digits.{number_lt, number_push, number_more}
use Rattle.std.proofs.lemmas.Nat.{pow_pos, pow-add}
use Rattle.std.proofs.Math.Nat.{pow-zero}
use Rattle.slh_params.specs.Bits.{AllBytes}
use Rattle.slh_params.specs.Bits.{base_2b, bit_group, to_byte, to_int}
use Rattle.slh_params.proofs.Bytes.{below, AllBytes-to_byte, to_int-to_byte}
use Rattle.slh_params.proofs.Windows.{window, window-split, window-byte, window-lt}
use Rattle.slh_few.specs.Wots.{NowhereBelow}

-- groups of bits as the digits of a number
pub base_2b-number : (x : List ℕ) (b l : ℕ) → l * b ≤ 8 * length x → number_from_digits (2 ^ b) (base_2b x b l) ≡ window x 0 (l * b)
unfolding base_2b
base_2b-number x b zero h = let e : 0 * b ≡ 0 = omega arith in rw e refl
base_2b-number x b (suc l) h =
    let e : suc l * b ≡ l * b + b = omega arith in
    let under = base_2b-number x b l (omega (arith, e, h)) in
    let split = window-split x 0 (l * b) b (omega (arith, e, h)) in
    let z : 0 + l * b ≡ l * b = omega arith in
    number_push (2 ^ b) (base_2b x b l) (bit_group x b l)
    ∙ ap (λ v. v * 2 ^ b + bit_group x b l) under
    ∙ ap (λ k. window x 0 (l * b) * 2 ^ b + window x k b) (sym z)
    ∙ sym split
    ∙ ap (window x 0) (sym e)

-- all bits of bytes as their number
pub bytes-number : (x : List ℕ) (k : ℕ) → AllBytes x → k ≤ length x → window x 0 (8 * k) ≡ number_from_digits 256 (take k x)
bytes-number x zero a h = refl
bytes-number x (suc k) a h =
    let e : 8 * suc k ≡ 8 * k + 8 = omega arith in
    let i : k < length x = omega arith in
    let z : 0 + 8 * k ≡ 8 * k = omega arith in
    ap (window x 0) e
    ∙ window-byte x 0 (8 * k) k z i (below x a k)
    ∙ ap (λ v. v * 256 + get_or x k 0) (bytes-number x k a (omega arith))
    ∙ sym (number_more 256 x k i)
    ∙ ap (λ j. number_from_digits 256 (take j x)) (add-one k)

-- a number begun from n
number_front : (B n : ℕ) (ds : List ℕ) → number_from_digits_after B n ds ≡ n * B ^ length ds + number_from_digits B ds
number_front B n [] = rw (pow-zero B) (omega arith)
number_front B n (d ∷ ds) =
    let a = number_front B (n * B + d) ds in
    let b = number_front B (0 * B + d) ds in
    rw (pow-suc B (length ds)) (omega (arith, a, b))

-- a first digit
number_cons : (B d : ℕ) (ds : List ℕ) → number_from_digits B (d ∷ ds) ≡ d * B ^ length ds + number_from_digits B ds
number_cons B d ds = let z : 0 * B + d ≡ d = omega arith in number_front B (0 * B + d) ds ∙ ap (λ k. k * B ^ length ds + number_from_digits B ds) z

-- equal numbers have equal quotients
same_front : (x y P a b : ℕ) → a < P → b < P → x * P + a ≡ y * P + b → x ≡ y
same_front x y P a b ha hb e =
    elim (cases_lt x y) [
      | inl l ↦ absurd (let m : (x + 1) * P ≤ y * P = mul-le-mul_right P (let le : x + 1 ≤ y = omega arith in le) in omega (arith, m, e, ha))
      | inr g ↦
          elim (cases_lt y x) [
            | inl l ↦ absurd (let m : (y + 1) * P ≤ x * P = mul-le-mul_right P (let le : y + 1 ≤ x = omega arith in le) in omega (arith, m, e, hb))
            | inr i ↦ omega arith
          ]
    ]

-- a number has one list of so many bytes
pub same_bytes : (xs ys : List ℕ) → length xs ≡ length ys → AllBytes xs → AllBytes ys → number_from_digits 256 xs ≡ number_from_digits 256 ys → xs ≡ ys
same_bytes [] [] l a b e = refl
same_bytes [] (y ∷ ys) l a b e = absurd (omega (arith, l))
same_bytes (x ∷ xs) [] l a b e = absurd (omega (arith, l))
same_bytes (x ∷ xs) (y ∷ ys) l a b e =
    let m : length xs ≡ length ys = omega (arith, l) in
    let ta : AllBytes xs = All-drop (λ b. b < 256) 1 (x ∷ xs) a in
    let tb : AllBytes ys = All-drop (λ b. b < 256) 1 (y ∷ ys) b in
    let la : number_from_digits 256 xs < 256 ^ length xs = number_lt 256 xs (recursion_from_All (λ b. b < 256) xs ta) in
    let lb : number_from_digits 256 ys < 256 ^ length xs = rw m (number_lt 256 ys (recursion_from_All (λ b. b < 256) ys tb)) in
    let both : x * 256 ^ length xs + number_from_digits 256 xs ≡ y * 256 ^ length xs + number_from_digits 256 ys =
    sym (number_cons 256 x xs) ∙ e ∙ number_cons 256 y ys ∙ ap (λ k. y * 256 ^ k + number_from_digits 256 ys) (sym m) in
    let first : x ≡ y = same_front x y (256 ^ length xs) _ _ la lb both in
    let prod : x * 256 ^ length xs ≡ y * 256 ^ length xs = ap (λ k. k * 256 ^ length xs) first in
    let rest = same_bytes xs ys m ta tb (omega (arith, both, prod)) in
    ap (λ k. k ∷ xs) first ∙ ap (λ zs. y ∷ zs) rest

-- larger digits leave less up to the last step
pub less_left : (W : ℕ) (ds es : List ℕ) → length ds ≡ length es → NowhereBelow ds es → sum_by (λ d. W - d) ds ≤ sum_by (λ d. W - d) es
less_left W [] [] l h = omega arith
less_left W [] (e ∷ es) l h = absurd (omega (arith, l))
less_left W (d ∷ ds) [] l h = absurd (omega (arith, l))
less_left W (d ∷ ds) (e ∷ es) l h =
    let first : e ≤ d = h zero in
    let rest = less_left W ds es (omega (arith, l)) (λ c. h (suc c)) in
    omega (arith, sum_by-cons (λ d. W - d) d ds, sum_by-cons (λ d. W - d) e es, rest, first)

-- and where no less is left, they are the same digits
pub same_digits : (W : ℕ) (ds es : List ℕ) → length ds ≡ length es → NowhereBelow ds es → ((c : ℕ) → get_or ds c 0 ≤ W)
    → sum_by (λ d. W - d) es ≤ sum_by (λ d. W - d) ds → ds ≡ es
same_digits W [] [] l h s q = refl
same_digits W [] (e ∷ es) l h s q = absurd (omega (arith, l))
same_digits W (d ∷ ds) [] l h s q = absurd (omega (arith, l))
same_digits W (d ∷ ds) (e ∷ es) l h s q =
    let first : e ≤ d = h zero in
    let small : d ≤ W = s zero in
    let down = less_left W ds es (omega (arith, l)) (λ c. h (suc c)) in
    let cd = sum_by-cons (λ d. W - d) d ds in
    let ce = sum_by-cons (λ d. W - d) e es in
    let eq : d ≡ e = omega (arith, down, cd, ce, q, first, small) in
    let back : sum_by (λ d. W - d) es ≤ sum_by (λ d. W - d) ds = omega (arith, cd, ce, q, eq) in
    let rest = same_digits W ds es (omega (arith, l)) (λ c. h (suc c)) (λ c. s (suc c)) back in
    ap (λ k. k ∷ ds) eq ∙ ap (λ zs. e ∷ zs) rest

-- larger digits write a larger number
pub larger_number : (B : ℕ) (ds es : List ℕ) → length ds ≡ length es → NowhereBelow ds es → number_from_digits B es ≤ number_from_digits B ds
larger_number B [] [] l h = omega arith
larger_number B [] (e ∷ es) l h = absurd (omega (arith, l))
larger_number B (d ∷ ds) [] l h = absurd (omega (arith, l))
larger_number B (d ∷ ds) (e ∷ es) l h =
    let m : length ds ≡ length es = omega (arith, l) in
    let rest = larger_number B ds es m (λ c. h (suc c)) in
    let first : e * B ^ length es ≤ d * B ^ length es = mul-le-mul_right (B ^ length es) (let le : e ≤ d = h zero in le) in
    let cd : number_from_digits B (d ∷ ds) ≡ d * B ^ length es + number_from_digits B ds =
    number_cons B d ds ∙ ap (λ k. d * B ^ k + number_from_digits B ds) m in
    omega (arith, cd, number_cons B e es, rest, first)

-- toByte gives as many bytes as it is asked for
length-to_byte : (x l : ℕ) → length (to_byte x l) ≡ l
length-to_byte x zero = refl
length-to_byte x (suc zero) = refl
length-to_byte x (suc (suc l)) = omega (arith, length-to_byte x (suc l))

-- the number that a checksum's digits write is the checksum
pub checksum_number : (c b l s L : ℕ) → l * b + s ≡ 8 * L → c < 2 ^ (l * b)
    → number_from_digits (2 ^ b) (base_2b (to_byte (c * 2 ^ s) L) b l) ≡ c
checksum_number c b l s L e h =
    let X = to_byte (c * 2 ^ s) L in
    let len : length X ≡ L = length-to_byte (c * 2 ^ s) L in
    let v = base_2b-number X b l (omega (arith, len, e)) in
    let split = window-split X 0 (l * b) s (omega (arith, len, e)) in
    let whole : window X 0 (l * b + s) ≡ to_int X =
    ap (window X 0) (e ∙ ap (λ k. 8 * k) (sym len)) ∙ bytes-number X (length X) (AllBytes-to_byte (c * 2 ^ s) L) (omega arith)
    ∙ ap (number_from_digits 256) (take_all (length X) X (omega arith)) in
    let fits : c * 2 ^ s < 2 ^ (8 * L) =
    rw (sym e, pow-add 2 (l * b) s) (mul-lt-mul_of_pos_right h (pow_pos s)) in
    let value : to_int X ≡ c * 2 ^ s = to_int-to_byte (c * 2 ^ s) L ∙ mod-eq_of_lt fits in
    let rest = window-lt X (0 + l * b) s (omega (arith, len, e)) in
    let pos : 0 < 2 ^ s = pow_pos s in
    v ∙ same_front (window X 0 (l * b)) c (2 ^ s) (window X (0 + l * b) s) 0 rest pos (sym split ∙ whole ∙ value ∙ (let z : c * 2 ^ s ≡ c * 2 ^ s + 0 = omega arith in z))
