-- A file longer than any key file: its fault depends on its front, the first 512 bytes, and on the first byte after
-- them that is not a digit.
use Rattle.std.proofs.Common.{◌≡◌, ℕ, suc, ◌+◌, ◌*◌, ◌<◌, ◌≤◌, ◌==◌, Bool, true, false, not, cond, inl, inr, [], ◌∷◌, ◌++◌, length, take, drop, get_or, Option, Some, None, Result, Ok, Err, refl, sym, ap, ◌∙◌, arith, append_assoc, append-nil, drop-cons, length-append, subst}
use Rattle.std.proofs.Math.Seq.{get_or-append_seam}
use Rattle.std.proofs.lemmas.Bool.{cases_eq, cases_lt, eqb-true}
use Rattle.std.proofs.lemmas.Bool.Decides.{nat_tests}
use Rattle.std.proofs.lemmas.List.{drop_all, length-take-le, take-append-drop, take_all}
use Rattle.std.proofs.lemmas.List.Folds.{list_all-append}
use Rattle.std.proofs.lemmas.Slice.Eq.{bytes_eq-Decides}
use Rattle.std.specs.List.{cons_option, find, list_all}
use Rattle.std.specs.Str.{bytes_eq}
use Rattle.hex.specs.Hex.{is_hex_digit}
use Rattle.slh_params.specs.ParamSet.{params}
use Rattle.slh_params.specs.Label.{label}
use Rattle.slh_params.proofs.Bounds.{n_high}
use Rattle.slh_params.proofs.Labelled.{length-label}
use Rattle.slh_params.specs.declared.param_set.ParamSet.{ParamSet}
use Rattle.slh_key_files.specs.declared.fault.FileFault.{FileFault}
use Rattle.slh_key_files.specs.declared.fault.FileFault.TheVariants.{NotAKeyFile, UnknownSet, BadHex, BadKeyLength}
use Rattle.slh_key_files.specs.declared.key_kind.KeyKind.{KeyKind}
use Rattle.slh_key_files.specs.declared.key_kind.KeyKind.TheVariants.{Public, Secret}
use Rattle.slh_key_files.specs.declared.key_kind.Version.{Version}
use Rattle.slh_key_files.specs.declared.key_kind.Version.TheVariants.{One, Two}
use Rattle.slh_key_files.specs.Lines.{Text, cut_line, last_line}
use Rattle.slh_key_files.specs.KeyFile.{AreReadAlike, IsKeyFront, after_kind, after_set, first_line, key_digits, key_file, key_len, key_line, set_of_line, version_of, with_rest, ◌>>=◌}
use Rattle.slh_key_files.proofs.LineFeeds.{cut_line-at, cut_line-none, no_feed}
use Rattle.slh_key_files.proofs.Decoding.{digit_no_feed}
use Rattle.slh_key_files.proofs.Reading.{after_first, digits_of, set_of_line-is, version_of-is}

-- ---- the first line feed of a text

data Feeds (text : Text) : Type 0 where
  none : list_all no_feed text ≡ true → Feeds text
  first : (line rest : Text) → text ≡ line ++ 10 ∷ rest → list_all no_feed line ≡ true → Feeds text

feeds-after : (b : ℕ) (bs : Text) → no_feed b ≡ true → Feeds bs → Feeds (b ∷ bs)
feeds-after b bs h (none f) = none (rw (h, f) refl)
feeds-after b bs h (first line rest e f) = first (b ∷ line) rest (ap (λ (t : Text). b ∷ t) e) (rw (h, f) refl)

feeds : (text : Text) → Feeds text
feeds [] = none refl
feeds (b ∷ bs) = elim (cases_eq b 10) [
  | inl e ↦ first [] bs (rw e refl) refl
  | inr other ↦ feeds-after b bs (grind (arith, nat_tests)) (feeds bs)
]

-- a line that goes on is cut off no sooner
data CutsAfter (front : Text) (cut : Option (Text × Text)) : Type 0 where
  nowhere : cut ≡ None → CutsAfter front cut
  later : (line rest : Text) → cut ≡ Some (front ++ line, rest) → CutsAfter front cut

no_feed-append : (a b : Text) → list_all no_feed a ≡ true → list_all no_feed b ≡ true → list_all no_feed (a ++ b) ≡ true
no_feed-append a b f g = rw (list_all-append no_feed a b, f, g) refl

cuts_after : (front tail : Text) → list_all no_feed front ≡ true → Feeds tail → CutsAfter front (cut_line (front ++ tail))
cuts_after front tail f (none g) = nowhere (cut_line-none (front ++ tail) (no_feed-append front tail f g))
cuts_after front tail f (first line rest e g) =
    later line rest (rw (e, ← append_assoc front line (10 ∷ rest)) (cut_line-at (front ++ line) rest (no_feed-append front line f g)))

-- a line feed of the front is where the text is cut
cut_line-front : (line rest tail : Text) → list_all no_feed line ≡ true → cut_line ((line ++ 10 ∷ rest) ++ tail) ≡ Some (line, rest ++ tail)
cut_line-front line rest tail f = rw (append_assoc line (10 ∷ rest) tail) (cut_line-at line (rest ++ tail) f)

-- ---- the first line

false_where : (b : Bool) → (b ≡ true → ⊥) → b ≡ false
false_where true other = absurd (other refl)
false_where false other = refl

kind_len : (kind : KeyKind) (version : Version) → length (first_line kind version) ≡ 16
kind_len Public One = refl
kind_len Public Two = refl
kind_len Secret One = refl
kind_len Secret Two = refl

longer_line : (kind : KeyKind) (version : Version) (front line : Text) → 16 < length front → bytes_eq (front ++ line) (first_line kind version) ≡ false
longer_line kind version front line long = false_where (bytes_eq (front ++ line) (first_line kind version))
    (λ same. let e : front ++ line ≡ first_line kind version = (bytes_eq-Decides (front ++ line) (first_line kind version)).0 same in
    omega (arith, ap (λ (t : Text). length t) e, length-append front line, kind_len kind version))

kind_long : (kind : KeyKind) (front : Text) (cut : Option (Text × Text)) → 16 < length front → CutsAfter front cut → after_kind kind cut ≡ Err NotAKeyFile
kind_long kind front cut long (nowhere e) = rw e refl
kind_long kind front cut long (later line rest e) = rw (e, longer_line kind One front line long, longer_line kind Two front line long) refl

-- ---- the second line

longer_label : (version : Version) (front line : Text) → 24 < length front → set_of_line version (front ++ line) ≡ None
longer_label version front line long = missing (set_of_line version (front ++ line)) refl
  where
    missing : (r : Option ParamSet) → set_of_line version (front ++ line) ≡ r → r ≡ None
    missing None e = refl
    missing (Some set) e =
        let same : label set ≡ front ++ line = (set_of_line-is version (front ++ line) set e).0 in
        absurd (omega (arith, ap (λ (t : Text). length t) same, length-append front line, length-label set))

set_long : (version : Version) (front : Text) (cut : Option (Text × Text)) → 24 < length front → CutsAfter front cut → after_set version cut ≡ Err UnknownSet
set_long version front cut long (nowhere e) = rw e refl
set_long version front cut long (later line rest e) = rw (e, longer_label version front line long) refl

-- ---- the third line

-- whether a line that goes on with this text has only digits from there on
abbrev goes_on : Text → Bool
goes_on tail = list_all is_hex_digit (last_line tail).0

last_line-after : (front tail : Text) → list_all no_feed front ≡ true → Feeds tail → (last_line (front ++ tail)).0 ≡ front ++ (last_line tail).0
last_line-after front tail f (none g) = rw (cut_line-none (front ++ tail) (no_feed-append front tail f g), cut_line-none tail g) refl
last_line-after front tail f (first line rest e g) = rw (
  e,
  ← append_assoc front line (10 ∷ rest),
  cut_line-at (front ++ line) rest (no_feed-append front line f g),
  cut_line-at line rest g,
) refl

eqb-false : (a b : ℕ) → (a ≡ b → ⊥) → (a == b) ≡ false
eqb-false a b other = false_where (a == b) (λ same. other (eqb-true a b same))

digits_long : (len : ℕ) (parts : Text × Text) → 2 * len < length parts.0
    → key_digits len parts ≡ cond (not (list_all is_hex_digit parts.0)) (Err BadHex) (Err BadKeyLength)
digits_long len parts long = rw (eqb-false (length parts.0) (2 * len) (λ e. omega arith)) refl

front_long : (len : ℕ) (front tail : Text) → 2 * len < length front → list_all no_feed front ≡ true
    → key_digits len (last_line (front ++ tail)) ≡ cond (not (list_all is_hex_digit (front ++ (last_line tail).0))) (Err BadHex) (Err BadKeyLength)
front_long len front tail long f =
    let e = last_line-after front tail f (feeds tail) in
    digits_long len (last_line (front ++ tail)) (rw e (omega (arith, length-append front (last_line tail).0)))
    ∙ ap (λ (t : Text). cond (not (list_all is_hex_digit t)) (Err BadHex) (Err BadKeyLength)) e

rest_alike : (len : ℕ) (line rest s t : Text) → 2 * len < length line + length rest → key_digits len (line, rest ++ s) ≡ key_digits len (line, rest ++ t)
rest_alike len line [] s t long = rw (eqb-false (length line) (2 * len) (λ e. omega arith)) refl
rest_alike len line (b ∷ bs) s t long = rw (
  eqb-false (length (b ∷ (bs ++ s))) 0 (λ e. omega arith),
  eqb-false (length (b ∷ (bs ++ t))) 0 (λ e. omega arith),
) refl

digits_alike : (len : ℕ) (front s t : Text) → 2 * len + 1 < length front → goes_on s ≡ goes_on t → Feeds front
    → key_digits len (last_line (front ++ s)) ≡ key_digits len (last_line (front ++ t))
digits_alike len front s t long e (none f) =
    front_long len front s (omega arith) f
    ∙ rw (list_all-append is_hex_digit front (last_line s).0, list_all-append is_hex_digit front (last_line t).0, e) refl
    ∙ sym (front_long len front t (omega arith) f)
digits_alike len front s t long e (first line rest g f) =
    rw (g, cut_line-front line rest s f, cut_line-front line rest t f)
    (rest_alike len line rest s t (omega (arith, ap (λ (x : Text). length x) g, length-append line (10 ∷ rest))))

-- ---- the three lines

key_len_few : (kind : KeyKind) (set : ParamSet) → key_len kind (params set) ≤ 128
key_len_few Public set = omega (arith, n_high set)
key_len_few Secret set = omega (arith, n_high set)

second_alike : (kind : KeyKind) (version : Version) (front s t : Text) → 282 < length front → goes_on s ≡ goes_on t → Feeds front
    → after_first kind (version, front ++ s) ≡ after_first kind (version, front ++ t)
second_alike kind version front s t long e (none f) = rw (
  set_long version front (cut_line (front ++ s)) (omega arith) (cuts_after front s f (feeds s)),
  set_long version front (cut_line (front ++ t)) (omega arith) (cuts_after front t f (feeds t)),
) refl
second_alike kind version front s t long e (first line rest g f) =
    rw (g, cut_line-front line rest s f, cut_line-front line rest t f) (found (set_of_line version line) refl)
  where
    found : (r : Option ParamSet) → set_of_line version line ≡ r
        → (with_rest r (rest ++ s) UnknownSet >>= digits_of kind) ≡ (with_rest r (rest ++ t) UnknownSet >>= digits_of kind)
    found None h = refl
    found (Some set) h =
        let sized : length front ≡ length line + suc (length rest) = ap (λ (x : Text). length x) g ∙ length-append line (10 ∷ rest) in
        let named : length line ≤ 24 = omega (arith, ap (λ (x : Text). length x) (set_of_line-is version line set h).0, length-label set) in
        let len : ℕ = key_len kind (params set) in
        let alike : key_digits len (last_line (rest ++ s)) ≡ key_digits len (last_line (rest ++ t)) =
        digits_alike len rest s t (omega (arith, sized, named, key_len_few kind set)) e (feeds rest) in
        ap (λ (r : Result Text FileFault). r >>= λ (digits : Text). Ok (set, digits)) alike

first_alike : (kind : KeyKind) (front s t : Text) → 300 < length front → goes_on s ≡ goes_on t → Feeds front
    → key_line kind (front ++ s) ≡ key_line kind (front ++ t)
first_alike kind front s t long e (none f) = rw (
  kind_long kind front (cut_line (front ++ s)) (omega arith) (cuts_after front s f (feeds s)),
  kind_long kind front (cut_line (front ++ t)) (omega arith) (cuts_after front t f (feeds t)),
) refl
first_alike kind front s t long e (first line rest g f) =
    rw (g, cut_line-front line rest s f, cut_line-front line rest t f) (chosen (version_of kind line) refl)
  where
    chosen : (r : Option Version) → version_of kind line ≡ r
        → (with_rest r (rest ++ s) NotAKeyFile >>= after_first kind) ≡ (with_rest r (rest ++ t) NotAKeyFile >>= after_first kind)
    chosen (Some version) h =
        let sized : length front ≡ length line + suc (length rest) = ap (λ (x : Text). length x) g ∙ length-append line (10 ∷ rest) in
        let same : length line ≡ 16 = ap (λ (x : Text). length x) (version_of-is kind line version h) ∙ kind_len kind version in
        second_alike kind version rest s t (omega arith) e (feeds rest)
    chosen None h = refl

file_alike : (kind : KeyKind) (front s t : Text) → 512 ≤ length front → goes_on s ≡ goes_on t → key_file kind (front ++ s) ≡ key_file kind (front ++ t)
file_alike kind front s t long e = rw (first_alike kind front s t (omega arith) e (feeds front)) refl

-- ---- the first byte that is not a digit

goes_on-digit : (b : ℕ) (bs : Text) → is_hex_digit b ≡ true → goes_on (b ∷ bs) ≡ goes_on bs
goes_on-digit b bs h =
    rw (last_line-after (b ∷ []) bs (rw (digit_no_feed b h) refl) (feeds bs), h) refl

goes_on-other : (b : ℕ) (s t : Text) → is_hex_digit b ≡ false → goes_on (b ∷ s) ≡ goes_on (b ∷ t)
goes_on-other b s t h = elim (cases_eq b 10) [
  | inl e ↦ rw (e, cut_line-at [] s refl, cut_line-at [] t refl) refl
  | inr ne ↦ let f : no_feed b ≡ true = grind (arith, nat_tests) in rw (
    last_line-after (b ∷ []) s (rw f refl) (feeds s),
    last_line-after (b ∷ []) t (rw f refl) (feeds t),
    h,
  ) refl
]

-- the first byte that is not a digit, if there is one
abbrev pub first_other : Text → Text
first_other part = cons_option (find (λ b. not (is_hex_digit b)) part) []

goes_on-first : (part more : Text) → goes_on (first_other part ++ more) ≡ goes_on (part ++ more)
goes_on-first [] more = refl
goes_on-first (b ∷ bs) more = chosen (is_hex_digit b) refl (goes_on-first bs more)
  where
    chosen : (d : Bool) → is_hex_digit b ≡ d → goes_on (first_other bs ++ more) ≡ goes_on (bs ++ more)
        → goes_on (cons_option (cond (not d) (Some b) (find (λ b. not (is_hex_digit b)) bs)) [] ++ more) ≡ goes_on ((b ∷ bs) ++ more)
    chosen true h again = again ∙ sym (goes_on-digit b (bs ++ more) h)
    chosen false h again = goes_on-other b more (bs ++ more) h

-- ---- what is pushed

-- the next bytes, of which no more are held than a front has room for
pub pushed_alike : (front part : Text) (n : ℕ) → n ≤ length part → (n < length part → 512 ≤ length front + n)
    → AreReadAlike ((front ++ take n part) ++ first_other (drop n part)) (front ++ part)
pushed_alike front part n few full kind more = elim (cases_lt n (length part)) [
  | inl cut ↦
      let near : length (front ++ take n part) ≡ length front + n = length-append front (take n part) ∙ ap (λ (m : ℕ). length front + m) (length-take-le n part few) in
      let whole : (front ++ take n part) ++ (drop n part ++ more) ≡ (front ++ part) ++ more =
      append_assoc front (take n part) (drop n part ++ more)
      ∙ ap (λ (t : Text). front ++ t) (sym (append_assoc (take n part) (drop n part) more) ∙ ap (λ (t : Text). t ++ more) (take-append-drop n part))
      ∙ sym (append_assoc front part more) in
      ap (λ (t : Text). key_file kind t) (append_assoc (front ++ take n part) (first_other (drop n part)) more)
      ∙ file_alike kind (front ++ take n part) (first_other (drop n part) ++ more) (drop n part ++ more) (omega (arith, full cut)) (goes_on-first (drop n part) more)
      ∙ ap (λ (t : Text). key_file kind t) whole
  | inr all ↦ rw (take_all n part all, drop_all n part all, append-nil (front ++ part)) refl
]

-- a front that has the byte after it
pub held_alike : (front part : Text) → IsKeyFront front → 512 < length front → AreReadAlike front (front ++ part)
held_alike front part held long kind more =
    let c : ℕ = get_or front 512 0 in
    let near : Text = take 512 front in
    let whole : front ≡ near ++ c ∷ [] =
    sym (take-append-drop 512 front) ∙ ap (λ (t : Text). near ++ t) (drop-cons front 512 0 long ∙ ap (λ (t : Text). c ∷ t) (drop_all 513 front held.at_most)) in
    ap (λ (t : Text). key_file kind (t ++ more)) whole
    ∙ ap (λ (t : Text). key_file kind t) (append_assoc near (c ∷ []) more)
    ∙ file_alike kind near (c ∷ more) (c ∷ (part ++ more)) (omega (arith, length-take-le 512 front (omega arith))) (goes_on-other c more (part ++ more) (held.last long))
    ∙ ap (λ (t : Text). key_file kind t) (sym (append_assoc near (c ∷ []) (part ++ more)) ∙ ap (λ (t : Text). t ++ (part ++ more)) (sym whole) ∙ sym (append_assoc front part more))

-- what is found is not a digit
found_other : (part : Text) (b : ℕ) → find (λ b. not (is_hex_digit b)) part ≡ Some b → is_hex_digit b ≡ false
found_other [] b h = cc h
found_other (x ∷ xs) b h = chosen (is_hex_digit x) refl h (found_other xs b)
  where
    chosen : (d : Bool) → is_hex_digit x ≡ d → cond (not d) (Some x) (find (λ b. not (is_hex_digit b)) xs) ≡ Some b
        → (find (λ b. not (is_hex_digit b)) xs ≡ Some b → is_hex_digit b ≡ false) → is_hex_digit b ≡ false
    chosen true e k again = again k
    chosen false e k again = let same : x ≡ b = cc k in ap is_hex_digit (sym same) ∙ e

-- with one more byte that is not a digit it may be held
pub still_front : (front part : Text) (b : ℕ) → length front ≤ 512 → find (λ b. not (is_hex_digit b)) part ≡ Some b → IsKeyFront (front ++ b ∷ [])
still_front front part b few found = record {
  at_most = omega (arith, length-append front (b ∷ []));
  last = λ long.
      let full : length front ≡ 512 = omega (arith, length-append front (b ∷ [])) in
      let seam : get_or (front ++ b ∷ []) 512 0 ≡ b = ap (λ (n : ℕ). get_or (front ++ b ∷ []) n 0) (sym full) ∙ get_or-append_seam front b [] 0 in
      ap is_hex_digit seam ∙ found_other part b found;
}

-- the parts that the code works on
pub record IsPushed (front part near far : Text) (n : ℕ) : Type 0 where
  pub near_is : near ≡ take n part
  pub far_is : far ≡ drop n part
  pub few : n ≤ length part
  pub full : n < length part → 512 ≤ length front + n

pub pushed_found : (front part near far held : Text) (n b : ℕ) → IsPushed front part near far n → find (λ b. not (is_hex_digit b)) far ≡ Some b
    → held ≡ (front ++ near) ++ b ∷ [] → AreReadAlike held (front ++ part)
pushed_found front part near far held n b p found e =
    let other : first_other (drop n part) ≡ b ∷ [] = ap (λ (t : Text). first_other t) (sym p.far_is) ∙ ap (λ (r : Option ℕ). cons_option r []) found in
    let same : held ≡ (front ++ take n part) ++ first_other (drop n part) = e ∙ rw (p.near_is, other) refl in
    subst (λ (t : Text). AreReadAlike t (front ++ part)) (sym same) (pushed_alike front part n p.few p.full)

pub pushed_none : (front part near far held : Text) (n : ℕ) → IsPushed front part near far n → find (λ b. not (is_hex_digit b)) far ≡ None
    → held ≡ front ++ near → AreReadAlike held (front ++ part)
pushed_none front part near far held n p found e =
    let other : first_other (drop n part) ≡ [] = ap (λ (t : Text). first_other t) (sym p.far_is) ∙ ap (λ (r : Option ℕ). cons_option r []) found in
    let same : held ≡ (front ++ take n part) ++ first_other (drop n part) = e ∙ rw (p.near_is, other, append-nil (front ++ take n part)) refl in
    subst (λ (t : Text). AreReadAlike t (front ++ part)) (sym same) (pushed_alike front part n p.few p.full)
