-- The set of a label: each set is found by its label, and by no other text.
use Rattle.std.proofs.Common.{◌≡◌, ℕ, ◌+◌, ◌-◌, ◌*◌, ◌/◌, ◌%◌, ◌<◌, ◌≤◌, ◌==◌, List, [], ◌∷◌, ◌++◌, take, Bool, true, false, not, cond, Option, Some, None, IfSome, IsNone, inl, inr, refl, arith, ap, sym, ◌∙◌, codes, length, length-append}
use Rattle.std.specs.Fmt.{decimal}
use Rattle.std.specs.List.{list_all}
use Rattle.std.proofs.lemmas.List.Folds.{list_all-append}
use Rattle.std.specs.Option.{option_and_then}
use Rattle.std.specs.Str.{bytes_eq}
use Rattle.std.proofs.lemmas.Bool.{cases_lt}
use Rattle.std.proofs.lemmas.Bool.Decides.{nat_tests}
use Rattle.std.proofs.lemmas.Fmt.{decimal_digit}
use Rattle.std.proofs.lemmas.Slice.Eq.{bytes_eq-Decides}
use Rattle.slh_params.specs.declared.param_set.ParamSet.{ParamSet}
use Rattle.slh_params.specs.ParamSet.{is, is_standard, name, params, IsStandard}
use Rattle.slh_params.specs.Params.{Params}
use Rattle.slh_params.specs.Label.{label, listed, numbers_after, set_if, set_of, set_of_label, set_told}
use Rattle.slh_params.specs.Valid.{is_valid}
use Rattle.slh_params.proofs.Bounds.{a_high, d_high, hp_high, k_high, lg_w_high, n_high, valid}
use Rattle.slh_params.proofs.Labels.{label_standard, length-name, two_digits}
use Rattle.slh_params.proofs.Names.{set_named-name, standard_cases}
use Rattle.slh_params.proofs.Reading.{known, label_other, listed_grouped}
use Rattle.slh_params.proofs.Same.{params_same}

-- a number of at most two digits is read, and what follows it
numbers-decimal : (m : ℕ) (rest : List ℕ) → m < 100 → numbers_after 0 (decimal m ++ rest) ≡ numbers_after m rest
numbers-decimal m rest small = elim (cases_lt m 10) [
  | inl one ↦
      let other : ((48 + m) == 44) ≡ false = grind (arith, nat_tests) in
      let same : 0 * 10 + ((48 + m) - 48) ≡ m = omega arith in
      rw (decimal_digit m one, other, same) refl
  | inr two ↦
      let tens : ((48 + m / 10) == 44) ≡ false = grind (arith, nat_tests) in
      let ones : ((48 + m % 10) == 44) ≡ false = grind (arith, nat_tests) in
      let same : (0 * 10 + ((48 + m / 10) - 48)) * 10 + ((48 + m % 10) - 48) ≡ m = omega arith in
      rw (two_digits m two small, tens, ones, same) refl
]

numbers-listed : (n l h d a k : ℕ) → n < 100 → l < 100 → h < 100 → d < 100 → a < 100 → k < 100
    → numbers_after 0 (decimal n ++ 44 ∷ (decimal l ++ 44 ∷ (decimal h ++ 44 ∷ (decimal d ++ 44 ∷ (decimal a ++ 44 ∷ (decimal k ++ []))))))
    ≡ n ∷ l ∷ h ∷ d ∷ a ∷ k ∷ []
numbers-listed n l h d a k sn sl sh sd sa sk = rw (
  numbers-decimal n (44 ∷ (decimal l ++ 44 ∷ (decimal h ++ 44 ∷ (decimal d ++ 44 ∷ (decimal a ++ 44 ∷ (decimal k ++ [])))))) sn,
  numbers-decimal l (44 ∷ (decimal h ++ 44 ∷ (decimal d ++ 44 ∷ (decimal a ++ 44 ∷ (decimal k ++ []))))) sl,
  numbers-decimal h (44 ∷ (decimal d ++ 44 ∷ (decimal a ++ 44 ∷ (decimal k ++ [])))) sh,
  numbers-decimal d (44 ∷ (decimal a ++ 44 ∷ (decimal k ++ []))) sd,
  numbers-decimal a (44 ∷ (decimal k ++ [])) sa,
  numbers-decimal k [] sk,
) refl

-- a valid record is that of a set
set_if-valid : (p : Params) (b : Bool) (e : is_valid p ≡ b) → b ≡ true → IfSome (set_if p b e) (λ made. params made ≡ p) × (IsNone (set_if p b e) → ⊥)
unfolding params
set_if-valid p true e v = (refl, λ none. cc none)
set_if-valid p false e v = absurd cc

-- the set of the record of a set
set_of-params : (set : ParamSet) → set_of (params set) ≡ Some set
set_of-params set = found (set_of (params set)) (set_if-valid (params set) (is_valid (params set)) refl (valid set))
  where
    found : (r : Option ParamSet) → IfSome r (λ made. params made ≡ params set) × (IsNone r → ⊥) → r ≡ Some set
    found (Some made) h = ap Some (params_same made set h.0)
    found None h = absurd (h.1 refl)

-- the numbers of a set have at most two digits
record AreSmall (p : Params) : Type 0 where
  n : p.n < 100
  lg_w : p.lg_w < 100
  hp : p.hp < 100
  d : p.d < 100
  a : p.a < 100
  k : p.k < 100

small : (set : ParamSet) → AreSmall (params set)
small set = record {
  n = omega (arith, n_high set);
  lg_w = omega (arith, lg_w_high set);
  hp = omega (arith, hp_high set);
  d = omega (arith, d_high set);
  a = omega (arith, a_high set);
  k = omega (arith, k_high set);
}

not_custom : (set : ParamSet) → IsStandard set → bytes_eq (take 7 (name set)) (codes "custom:") ≡ false
unfolding name is
not_custom = standard_cases (λ set. bytes_eq (take 7 (name set)) (codes "custom:") ≡ false) refl refl refl refl refl refl

told : (set : ParamSet) → set_told (label set) ≡ Some set
told set = elim (known (is_standard set)) [
  | inl standard ↦ rw (label_standard set standard, not_custom set standard) (set_named-name set standard)
  | inr other ↦
      let p = params set in
      let s = small set in
      let read : numbers_after 0 (listed p) ≡ p.n ∷ p.lg_w ∷ p.hp ∷ p.d ∷ p.a ∷ p.k ∷ [] =
      rw (listed_grouped p) (numbers-listed p.n p.lg_w p.hp p.d p.a p.k s.n s.lg_w s.hp s.d s.a s.k) in
      rw (label_other set other, read) (set_of-params set)
]

-- each set is found by its label
pub set_of_label-label : (set : ParamSet) → set_of_label (label set) ≡ Some set
unfolding set_of_label
set_of_label-label set =
    let same : bytes_eq (label set) (label set) ≡ true = (bytes_eq-Decides (label set) (label set)).1 refl in
    rw (told set, same) refl

-- what is found has the label
pub set_of_label-is : (text : List ℕ) (set : ParamSet) → set_of_label text ≡ Some set → label set ≡ text
unfolding set_of_label
set_of_label-is text set e = chosen (set_told text) e
  where
    tested : (t : ParamSet) (b : Bool) → bytes_eq (label t) text ≡ b → cond b (Some t) None ≡ Some set → label set ≡ text
    tested t true is found = let same : t ≡ set = cc in ap label (sym same) ∙ (bytes_eq-Decides (label t) text).0 is
    tested t false is found = absurd cc

    chosen : (r : Option ParamSet) → option_and_then (λ t. cond (bytes_eq (label t) text) (Some t) None) r ≡ Some set → label set ≡ text
    chosen None found = absurd cc
    chosen (Some t) found = tested t (bytes_eq (label t) text) refl found

-- a reader that finds a set by its label, and none by any other text
pub set_of_label-found : (text : List ℕ) (r : Option ParamSet) → IfSome r (λ set. label set ≡ text) → (IsNone r → (set : ParamSet) → label set ≡ text → ⊥)
    → r ≡ set_of_label text
set_of_label-found text (Some set) some none = sym (set_of_label-label set) ∙ ap set_of_label some
set_of_label-found text None some none = missing (set_of_label text) refl
  where
    missing : (r : Option ParamSet) → set_of_label text ≡ r → None ≡ r
    missing None e = refl
    missing (Some set) e = absurd (none refl set (set_of_label-is text set e))

-- ---- a label is one short line

-- a byte that ends no line
abbrev no_feed : ℕ → Bool
no_feed b = not (b == 10)

decimal-line : (m : ℕ) → m < 100 → list_all no_feed (decimal m) ≡ true
decimal-line m small = elim (cases_lt m 10) [
  | inl one ↦
      let other : ((48 + m) == 10) ≡ false = grind (arith, nat_tests) in
      rw (decimal_digit m one, other) refl
  | inr two ↦
      let tens : ((48 + m / 10) == 10) ≡ false = grind (arith, nat_tests) in
      let ones : ((48 + m % 10) == 10) ≡ false = grind (arith, nat_tests) in
      rw (two_digits m two small, tens, ones) refl
]

decimal-short : (m : ℕ) → m < 100 → length (decimal m) ≤ 2
decimal-short m small = elim (cases_lt m 10) [
  | inl one ↦ rw (decimal_digit m one) (omega arith)
  | inr two ↦ rw (two_digits m two small) (omega arith)
]

-- six texts with commas between them
abbrev parted : List ℕ → List ℕ → List ℕ → List ℕ → List ℕ → List ℕ → List ℕ
parted n l h d a k = n ++ 44 ∷ (l ++ 44 ∷ (h ++ 44 ∷ (d ++ 44 ∷ (a ++ 44 ∷ (k ++ [])))))

-- one of them, and what follows it
line-before : (x rest : List ℕ) → list_all no_feed x ≡ true → list_all no_feed rest ≡ true → list_all no_feed (x ++ rest) ≡ true
line-before x rest e f = rw (list_all-append no_feed x rest, e, f) refl

parted-line : (n l h d a k : List ℕ) → list_all no_feed n ≡ true → list_all no_feed l ≡ true → list_all no_feed h ≡ true → list_all no_feed d ≡ true
    → list_all no_feed a ≡ true → list_all no_feed k ≡ true → list_all no_feed (parted n l h d a k) ≡ true
parted-line n l h d a k en el eh ed ea ek =
    line-before n _ en (line-before l _ el (line-before h _ eh (line-before d _ ed (line-before a _ ea (line-before k [] ek refl)))))

parted-short : (n l h d a k : List ℕ) → length n ≤ 2 → length l ≤ 2 → length h ≤ 2 → length d ≤ 2 → length a ≤ 2 → length k ≤ 2 → length (parted n l h d a k) ≤ 17
parted-short n l h d a k en el eh ed ea ek = omega (
  arith,
  length-append n (44 ∷ (l ++ 44 ∷ (h ++ 44 ∷ (d ++ 44 ∷ (a ++ 44 ∷ (k ++ [])))))),
  length-append l (44 ∷ (h ++ 44 ∷ (d ++ 44 ∷ (a ++ 44 ∷ (k ++ []))))),
  length-append h (44 ∷ (d ++ 44 ∷ (a ++ 44 ∷ (k ++ [])))),
  length-append d (44 ∷ (a ++ 44 ∷ (k ++ []))),
  length-append a (44 ∷ (k ++ [])),
  length-append k [],
)

name-line : (set : ParamSet) → IsStandard set → list_all no_feed (name set) ≡ true
unfolding name is
name-line = standard_cases (λ set. list_all no_feed (name set) ≡ true) refl refl refl refl refl refl

-- a label has no line feed
pub label-line : (set : ParamSet) → list_all (λ b. not (b == 10)) (label set) ≡ true
label-line set = elim (known (is_standard set)) [
  | inl standard ↦ rw (label_standard set standard) (name-line set standard)
  | inr other ↦
      let p = params set in
      let s = small set in
      rw (label_other set other, listed_grouped p)
      (parted-line (decimal p.n) (decimal p.lg_w) (decimal p.hp) (decimal p.d) (decimal p.a) (decimal p.k)
      (decimal-line p.n s.n) (decimal-line p.lg_w s.lg_w) (decimal-line p.hp s.hp) (decimal-line p.d s.d) (decimal-line p.a s.a) (decimal-line p.k s.k))
]

-- a label has at most 24 bytes
pub length-label : (set : ParamSet) → length (label set) ≤ 24
length-label set = elim (known (is_standard set)) [
  | inl standard ↦ rw (label_standard set standard) (omega (arith, length-name set))
  | inr other ↦
      let p = params set in
      let s = small set in
      let few = parted-short (decimal p.n) (decimal p.lg_w) (decimal p.hp) (decimal p.d) (decimal p.a) (decimal p.k)
      (decimal-short p.n s.n) (decimal-short p.lg_w s.lg_w) (decimal-short p.hp s.hp) (decimal-short p.d s.d) (decimal-short p.a s.a) (decimal-short p.k s.k) in
      rw (label_other set other, listed_grouped p) (omega (arith, few))
]
