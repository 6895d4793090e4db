-- What is read from a label.
use Rattle.std.proofs.Common.{◌≡◌, ℕ, ◌+◌, ◌-◌, ◌*◌, ◌/◌, ◌%◌, ◌<◌, ◌≤◌, List, [], ◌∷◌, ◌++◌, length, get_or, take, drop, Bool, true, false, Some, Result, Ok, Err, IsOk, IfOk, ◌↔◌, inl, inr, refl, arith, ap, sym, ◌∙◌, codes, nat_eq, ◌⊎◌, append_assoc, append-nil, IsUtf8}
use Rattle.std.specs.Fmt.{decimal}
use Rattle.std.proofs.lemmas.Fmt.{decimal_digit}
use Rattle.std.proofs.lemmas.Bool.{cases_lt}
use Rattle.std.proofs.lemmas.List.{take_all, length-drop}
use Rattle.std.specs.Cmp.Lexicographic.{pointwise}
use Rattle.slh_params.specs.declared.param_set.ParamSet.{ParamSet}
use Rattle.slh_params.specs.ParamSet.{is_standard, is, name, params, IsStandard}
use Rattle.slh_params.specs.Valid.{IsValidRecord}
use Rattle.slh_params.specs.declared.param_set.custom.RecordFault.{RecordFault}
use Rattle.slh_params.proofs.Bounds.{valid}
use Rattle.slh_params.proofs.Same.{params_same}
use Rattle.std.specs.Result.{result_ok}
use Rattle.std.specs.Char.{encode_utf8}
use Rattle.slh_params.specs.Params.{Params}
use Rattle.slh_params.specs.Label.{label, listed, IsAtFront}
use Rattle.slh_params.proofs.Labels.{two_digits, label_standard}
use Rattle.slh_params.proofs.Names.{standard_cases}

-- what a slice from a place on has
whole_rest : (text : List ℕ) (k : ℕ) → take (length text - k) (drop k text) ≡ drop k text
whole_rest text k = take_all _ (drop k text) (omega (arith, length-drop k text))

-- a number of one digit, and one of two
text_one : (text rest : List ℕ) (m : ℕ) → m < 10 → (h : IsAtFront text m rest) → text ≡ h.2.0 ∷ (48 + m) ∷ rest
text_one text rest m small h = h.2.1 ∙ (rw (decimal_digit m small) refl)

text_two : (text rest : List ℕ) (m : ℕ) → 10 ≤ m → (h : IsAtFront text m rest) → text ≡ h.2.0 ∷ (48 + m / 10) ∷ (48 + m % 10) ∷ rest
text_two text rest m large h = h.2.1 ∙ (rw (two_digits m large h.0) refl)

-- a digit stands where a number does
pub digit_at_front : (text rest : List ℕ) (m : ℕ) → IsAtFront text m rest → (1 < length text) × (48 ≤ get_or text 1 0) × (get_or text 1 0 ≤ 57)
digit_at_front text rest m h = elim (cases_lt m 10) [
  | inl small ↦ rw (text_one text rest m small h) (omega arith, omega arith, omega arith)
  | inr large ↦ let s : m < 100 = h.0 in rw (text_two text rest m large h) (omega arith, omega arith, omega arith)
]

pub read_one : (text rest : List ℕ) (m : ℕ) → IsAtFront text m rest → ((2 < length text) × (48 ≤ get_or text 2 0) × (get_or text 2 0 ≤ 57) → ⊥)
    → (get_or text 1 0 - 48 ≡ m) × (take (length text - 2) (drop 2 text) ≡ rest)
read_one text rest m h other = elim (cases_lt m 10) [
  | inl small ↦ rw (whole_rest text 2) (rw (text_one text rest m small h) (omega arith, refl))
  | inr large ↦
      let s : m < 100 = h.0 in
      absurd (other (rw (text_two text rest m large h) (omega arith, omega arith, omega arith)))
]

pub read_two : (text rest : List ℕ) (m : ℕ) → IsAtFront text m rest → 48 ≤ get_or text 2 0
    → ((get_or text 1 0 - 48) * 10 + (get_or text 2 0 - 48) ≡ m) × (take (length text - 3) (drop 3 text) ≡ rest)
read_two text rest m h digit = elim (cases_lt m 10) [
  | inl small ↦
      let e : get_or text 2 0 ≡ get_or rest 0 0 = rw (text_one text rest m small h) refl in
      absurd (omega (arith, e, h.1))
  | inr large ↦ let s : m < 100 = h.0 in rw (whole_rest text 3) (rw (text_two text rest m large h) (omega arith, refl))
]

-- ---- the six numbers

-- what follows each number of a label
abbrev pub behind_a : Params → List ℕ
behind_a p = 44 ∷ decimal p.k ++ []

abbrev pub behind_d : Params → List ℕ
behind_d p = 44 ∷ decimal p.a ++ behind_a p

abbrev pub behind_hp : Params → List ℕ
behind_hp p = 44 ∷ decimal p.d ++ behind_d p

abbrev pub behind_lg_w : Params → List ℕ
behind_lg_w p = 44 ∷ decimal p.hp ++ behind_hp p

abbrev pub behind_n : Params → List ℕ
behind_n p = 44 ∷ decimal p.lg_w ++ behind_lg_w p

grouped : (n l h d a k : List ℕ) → n ++ 44 ∷ [] ++ l ++ 44 ∷ [] ++ h ++ 44 ∷ [] ++ d ++ 44 ∷ [] ++ a ++ 44 ∷ [] ++ k
    ≡ n ++ 44 ∷ (l ++ 44 ∷ (h ++ 44 ∷ (d ++ 44 ∷ (a ++ 44 ∷ (k ++ [])))))
grouped n l h d a k = simp (append_assoc, append-nil)

pub listed_grouped : (p : Params) → listed p ≡ decimal p.n ++ behind_n p
listed_grouped p = grouped (decimal p.n) (decimal p.lg_w) (decimal p.hp) (decimal p.d) (decimal p.a) (decimal p.k)

pub at_front : (text rest : List ℕ) (separator m : ℕ) → m < 100 → get_or rest 0 0 < 48 → text ≡ separator ∷ decimal m ++ rest → IsAtFront text m rest
at_front text rest separator m small ends e = (small, ends, (separator, e))

-- the set of the numbers that were read
pub same_set : (r : Result ParamSet RecordFault) (set : ParamSet) (p : Params) → p ≡ params set → IfOk r (λ made. params made ≡ p) → (IsOk r ↔ IsValidRecord p)
    → result_ok r ≡ Some set
same_set (Ok made) set p e h v = ap Some (params_same made set (h ∙ e))
same_set (Err fault) set p e h v = absurd (let f : false ≡ true = v.1 (rw e (valid set)) in cc)

-- ---- names

pub utf8_name : (set : ParamSet) → IsStandard set → IsUtf8 (name set)
unfolding name is encode_utf8
utf8_name = standard_cases (λ set. IsUtf8 (name set)) (codes "SLH-DSA-SHA2-128s", (refl, refl)) (codes "SLH-DSA-SHA2-128f", (refl, refl))
    (codes "SLH-DSA-SHA2-192s", (refl, refl)) (codes "SLH-DSA-SHA2-192f", (refl, refl)) (codes "SLH-DSA-SHA2-256s", (refl, refl))
    (codes "SLH-DSA-SHA2-256f", (refl, refl))

-- ---- the two kinds of labels

-- whether the text begins with `custom`
abbrev pub custom_first : List ℕ → Bool
custom_first text = pointwise nat_eq (take 6 text) (codes "custom")

not_custom : (set : ParamSet) → IsStandard set → custom_first (name set) ≡ false
unfolding name is
not_custom = standard_cases (λ set. custom_first (name set) ≡ false) refl refl refl refl refl refl

pub known : (b : Bool) → (b ≡ true) ⊎ (b ≡ false)
known true = inl refl
known false = inr refl

pub label_other : (set : ParamSet) → is_standard set ≡ false → label set ≡ codes "custom:" ++ listed (params set)
unfolding label
label_other set e = rw e refl

-- what a label that begins with `custom` goes on with
pub label_numbers : (set : ParamSet) (text : List ℕ) → label set ≡ text → custom_first text ≡ true → drop 6 text ≡ 58 ∷ listed (params set)
label_numbers set text e first = elim (known (is_standard set)) [
  | inl standard ↦
      let f : custom_first text ≡ false = rw (← e, label_standard set standard) (not_custom set standard) in
      absurd cc
  | inr other ↦ rw (← e, label_other set other) refl
]

-- a label that does not is the name of a set of the standard
pub label_name : (set : ParamSet) (text : List ℕ) → label set ≡ text → custom_first text ≡ false → IsStandard set × (name set ≡ text)
label_name set text e first = elim (known (is_standard set)) [
  | inl standard ↦ (standard, sym (label_standard set standard) ∙ e)
  | inr other ↦
      let t : custom_first text ≡ true = rw (← e, label_other set other) refl in
      absurd cc
]
