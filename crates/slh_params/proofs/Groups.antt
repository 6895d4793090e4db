-- Groups of bits as digits of a number.
use Rattle.std.proofs.Common.{◌≡◌, ℕ, zero, suc, ◌*◌, ◌^◌, ◌<◌, ◌≤◌, List, [], ◌∷◌, length, get_or, take, drop, refl, ◌∙◌, arith, length-append, lit<, inl, inr}
use Rattle.std.specs.List.{All}
use Rattle.std.proofs.lemmas.Bool.{cases_lt}
use Rattle.std.proofs.lemmas.List.{length-take, get_or_past}
use Rattle.std.proofs.lemmas.List.Elements.{All-nil, All-cons, All-append, All-take, All-drop, All-get_or, recursion_from_All}
use Rattle.std.proofs.lemmas.Int.Digits.{number_lt}
use Rattle.std.proofs.lemmas.Nat.{pow_pos}
use Rattle.std.proofs.Math.Nat.{pow-le-pow_right}
use Rattle.slh_params.specs.Bits.{bits_of, bit_group, base_2b}
use Rattle.slh_params.proofs.Windows.{P, bits_of_All}

pub length-base_2b : (x : List ℕ) (b l : ℕ) → length (base_2b x b l) ≡ l
unfolding base_2b
length-base_2b x b zero = refl
length-base_2b x b (suc l) = length-append (base_2b x b l) (bit_group x b l ∷ []) ∙ omega (arith, length-base_2b x b l)

pub group-lt : (x : List ℕ) (b g : ℕ) → bit_group x b g < 2 ^ b
group-lt x b g =
    let t : List ℕ = take b (drop (g * b) (bits_of x)) in
    let l = number_lt 2 t (recursion_from_All P _ (All-take P b _ (All-drop P (g * b) (bits_of x) (bits_of_All x)))) in
    let m : length t ≤ b = omega (arith, length-take b (drop (g * b) (bits_of x))) in
    let s : 2 ^ length t ≤ 2 ^ b = pow-le-pow_right {n = 2} (lit< tt) m in
    omega (arith, l, s)

pub base_2b-small : (x : List ℕ) (b l : ℕ) → All (λ d. d < 2 ^ b) (base_2b x b l)
unfolding base_2b
base_2b-small x b zero = All-nil (λ d. d < 2 ^ b)
base_2b-small x b (suc l) =
    All-append (λ d. d < 2 ^ b) (base_2b x b l) (bit_group x b l ∷ []) (base_2b-small x b l)
    (All-cons (λ d. d < 2 ^ b) _ [] (group-lt x b l) (All-nil (λ d. d < 2 ^ b)))

-- an element of a list whose elements are all small, or 0 past its end
pub small-at : (n : ℕ) (xs : List ℕ) (c : ℕ) → 0 < n → All (λ d. d < n) xs → get_or xs c 0 < n
small-at n xs c z h = elim (cases_lt c (length xs)) [
  | inl lt ↦ All-get_or (λ d. d < n) xs c 0 lt h
  | inr ge ↦ let e : get_or xs c 0 ≡ 0 = get_or_past xs c 0 ge in omega (arith, e)
]

pub base_2b-digit : (x : List ℕ) (b l c : ℕ) → get_or (base_2b x b l) c 0 < 2 ^ b
base_2b-digit x b l c = small-at (2 ^ b) (base_2b x b l) c (pow_pos b) (base_2b-small x b l)
