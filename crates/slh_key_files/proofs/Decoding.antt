-- Hexadecimal digits and the bytes that they spell.
use Rattle.std.proofs.Common.{◌≡◌, ℕ, ◌*◌, true, inl, inr, List, [], ◌∷◌, length, Result, Ok, Err, sym, ap, ◌∙◌, arith, refl}
use Rattle.std.proofs.lemmas.Bool.{and_parts, cases_eq}
use Rattle.std.proofs.lemmas.Bool.Decides.{nat_tests}
use Rattle.std.proofs.lemmas.List.Sums.{AllPass-from_list_all}
use Rattle.std.specs.List.{list_all}
use Rattle.std.specs.Prelude.{MatchResult}
use Rattle.hex.specs.Hex.{decode_of, decode_sized, is_hex_digit}
use Rattle.hex.specs.declared.FromHexError.{FromHexError}
use Rattle.hex.proofs.HexLemmas.{decode_of-digits, decode_sized-twice}
use Rattle.slh_key_files.proofs.LineFeeds.{no_feed}

-- digits that were decoded into room for their bytes
pub decoded_whole : (s : List ℕ) (n : ℕ) (r : Result (Unit {0}) FromHexError) (out : List ℕ) → length s ≡ 2 * n → list_all is_hex_digit s ≡ true
    → MatchResult (decode_sized s n) (λ bytes. (r ≡ Ok tt) × (out ≡ bytes)) (λ e. r ≡ Err e) → decode_of s ≡ Ok out
decoded_whole s n r out len hex h =
    let d = decode_of-digits s (omega arith) (AllPass-from_list_all is_hex_digit s hex) in
    let written = rw (decode_sized-twice s n len, d.1) at h in
    d.1 ∙ ap Ok (sym written.1)

-- a line feed is not a digit
pub digit_no_feed : (b : ℕ) → is_hex_digit b ≡ true → no_feed b ≡ true
digit_no_feed b h = elim (cases_eq b 10) [ inl e ↦ cc (rw e at h) | inr ne ↦ grind (arith, nat_tests) ]

-- digits have no line feed among them
pub digits_no_feed : (s : List ℕ) → list_all is_hex_digit s ≡ true → list_all no_feed s ≡ true
digits_no_feed [] h = refl
digits_no_feed (b ∷ bs) h =
    let parts = and_parts (is_hex_digit b) (list_all is_hex_digit bs) h in
    rw (digit_no_feed b parts.0, digits_no_feed bs parts.1) refl
