-- Lists of numbers with commas between them.
use Rattle.std.proofs.Common.{◌≡◌, ℕ, ◌+◌, ◌<◌, ◌≤◌, nat_le, Bool, true, false, if◌then◌else◌, List, [], ◌∷◌, ◌++◌, length, drop, get_or, append_assoc, append-nil, Option, Some, None, option_map, Result, Ok, Err, refl, sym, ap, ◌∙◌, arith}
use Rattle.std.specs.Char.{is_ascii_digit}
use Rattle.std.specs.List.{list_all}
use Rattle.std.specs.Option.{option_and_then}
use Rattle.std.specs.Result.{result_ok}
use Rattle.std.specs.Str.{all_ascii_digits}
use Rattle.std.specs.Str.Parse.{ParsesUnsigned, digits_value}
use Rattle.std.proofs.lemmas.Bool.Decides.{nat_tests}
use Rattle.std.proofs.lemmas.List.{at_drop_all, at_drop_more, length-append}
use Rattle.std.proofs.lemmas.Str.Parse.{IsNumeralModel, digits_value_short, numerals_by_value, parse_digits, tells_all_ascii_digits}
use Rattle.clap.specs.Words.{Text}
use Rattle.slh_tool.specs.Cuts.{is_number, number_in, numbers_in, parts_of, points_in}

same_digits : (text : Text) → list_all is_ascii_digit text ≡ all_ascii_digits text
same_digits [] = refl
same_digits (c ∷ cs) = rw (same_digits cs) refl

own : IsNumeralModel (λ ds. all_ascii_digits ds ≡ true) (digits_value 10)
own = numerals_by_value _ tells_all_ascii_digits

-- over 9 bytes are not a number
pub too_long : (text : Text) → 9 < length text → None ≡ number_in text
unfolding number_in
too_long text long = let b : is_number text ≡ false = grind (arith, nat_tests) in rw b refl

pub not_digits : (text : Text) → list_all is_ascii_digit text ≡ false → None ≡ number_in text
unfolding number_in
not_digits text other = let b : is_number text ≡ false = grind (arith, nat_tests) in rw b refl

-- digits that are read give their number
pub number_read : {E : Type 0} (text : Text) (r : Result ℕ E) → ParsesUnsigned 32 10 text r → length text ≤ 9 → list_all is_ascii_digit text ≡ true
    → result_ok r ≡ number_in text
unfolding number_in
number_read {E} text (Ok n) p few digits =
    let h = parse_digits own {E = E} 32 text (Ok n) p (sym (same_digits text) ∙ digits) in
    let b : is_number text ≡ true = grind (arith, nat_tests) in
    rw (b, h.1) refl
number_read {E} [] (Err e) p few digits = refl
number_read {E} (c ∷ cs) (Err e) p few digits =
    let all : all_ascii_digits (c ∷ cs) ≡ true = sym (same_digits (c ∷ cs)) ∙ digits in
    absurd (parse_digits own {E = E} 32 (c ∷ cs) (Err e) p all (omega arith, omega (arith, digits_value_short own (c ∷ cs) 9 all few)))

-- the numbers so far and those to come are all the numbers
abbrev pub HasRead : List Text → List ℕ → Type 0
HasRead parts points = option_map (λ ns. points ++ ns) (numbers_in (drop (length points) parts)) ≡ numbers_in parts

none_before : (r : Option (List ℕ)) → option_map (λ (ns : List ℕ). [] ++ ns) r ≡ r
none_before None = refl
none_before (Some ns) = refl

pub none_read : (parts : List Text) (points : List ℕ) → points ≡ [] → HasRead parts points
none_read parts points e = rw e (none_before (numbers_in parts))

regroup : (front : List ℕ) (n : ℕ) (r : Option (List ℕ)) → option_map (λ (ns : List ℕ). front ++ ns) (option_map (λ (ns : List ℕ). n ∷ ns) r) ≡ option_map (λ (ns : List ℕ). (front ++ n ∷ []) ++ ns) r
regroup front n None = refl
regroup front n (Some ns) = ap (λ (x : List ℕ). Some x) (simp append_assoc)

-- the numbers from the k-th part on
next : (parts : List Text) (k : ℕ) (part : Text) → k < length parts → part ≡ get_or parts k part
    → numbers_in (drop k parts) ≡ option_and_then (λ n. option_map (λ ns. n ∷ ns) (numbers_in (drop (k + 1) parts))) (number_in part)
next parts k part lt is =
    at_drop_more numbers_in parts k part lt
    ∙ ap (λ (x : Text). option_and_then (λ n. option_map (λ ns. n ∷ ns) (numbers_in (drop (k + 1) parts))) (number_in x)) (sym is)

-- one part more is a number
pub more_read : (parts : List Text) (points : List ℕ) (part : Text) (n : ℕ) → HasRead parts points → length points < length parts
    → part ≡ get_or parts (length points) part → number_in part ≡ Some n → HasRead parts (points ++ n ∷ [])
more_read parts points part n before lt is value =
    let one : numbers_in (drop (length points) parts) ≡ option_map (λ (ns : List ℕ). n ∷ ns) (numbers_in (drop (length points + 1) parts)) =
    next parts (length points) part lt is ∙ rw value refl in
    let size : length (points ++ n ∷ []) ≡ length points + 1 = length-append points (n ∷ []) in
    let now : option_map (λ (ns : List ℕ). (points ++ n ∷ []) ++ ns) (numbers_in (drop (length points + 1) parts)) ≡ numbers_in parts =
    sym (regroup points n (numbers_in (drop (length points + 1) parts))) ∙ ap (option_map (λ (ns : List ℕ). points ++ ns)) (sym one) ∙ before in
    rw size now

no_numbers : (b : Bool) (r : Option (List ℕ)) → r ≡ None → None ≡ (if b then r else None)
no_numbers true r e = sym e
no_numbers false r e = refl

-- a part is not a number
pub part_fails : (text : Text) (points : List ℕ) (part : Text) → HasRead (parts_of text) points → length points < length (parts_of text)
    → part ≡ get_or (parts_of text) (length points) part → number_in part ≡ None → None ≡ points_in text
unfolding points_in
part_fails text points part before lt is value =
    let parts = parts_of text in
    let one : numbers_in (drop (length points) parts) ≡ None = next parts (length points) part lt is ∙ rw value refl in
    let all : numbers_in parts ≡ None = sym before ∙ rw one refl in
    no_numbers _ _ all

-- there are over 256 parts
pub too_many : (text : Text) (points : List ℕ) → length points ≡ 256 → length points < length (parts_of text) → None ≡ points_in text
unfolding points_in
too_many text points full lt =
    let n : ℕ = length (parts_of text) in
    let b : nat_le n 256 ≡ false = grind (arith, nat_tests) in
    rw b refl

-- all parts are read
pub all_read : (text : Text) (points : List ℕ) → HasRead (parts_of text) points → length points ≡ length (parts_of text) → length points ≤ 256
    → Some points ≡ points_in text
unfolding points_in
all_read text points before count few =
    let parts = parts_of text in
    let b : nat_le (length parts) 256 ≡ true = grind (arith, nat_tests) in
    let none : numbers_in (drop (length points) parts) ≡ Some [] = at_drop_all numbers_in parts (length points) (omega (arith, count)) in
    let all : numbers_in parts ≡ Some points = sym before ∙ rw none (ap (λ (x : List ℕ). Some x) (append-nil points)) in
    rw b (sym all)
