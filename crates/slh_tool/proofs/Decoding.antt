-- Hexadecimal digits that are decoded into a room.
use Rattle.std.proofs.Common.{◌≡◌, ℕ, true, false, List, Some, None, Result, Ok, Err, MatchResult, is_err, refl, ap}
use Rattle.std.specs.Result.{result_ok}
use Rattle.hex.specs.Hex.{decode_sized}
use Rattle.hex.specs.declared.error.FromHexError.{FromHexError}

of_answer : (want : Result (List ℕ) FromHexError) (r : Result (Unit {0}) FromHexError) (out : List ℕ)
    → MatchResult want (λ bytes. (r ≡ Ok tt) × (out ≡ bytes)) (λ e. r ≡ Err e) → is_err r ≡ false → Some out ≡ result_ok want
of_answer (Ok bytes) r out h e = ap (λ (x : List ℕ). Some x) h.1
of_answer (Err f) r out h e = cc (ap (λ (x : Result (Unit {0}) FromHexError). is_err x) h)

of_fault : (want : Result (List ℕ) FromHexError) (r : Result (Unit {0}) FromHexError) (out : List ℕ)
    → MatchResult want (λ bytes. (r ≡ Ok tt) × (out ≡ bytes)) (λ e. r ≡ Err e) → is_err r ≡ true → None ≡ result_ok want
of_fault (Ok bytes) r out h e = cc (ap (λ (x : Result (Unit {0}) FromHexError). is_err x) h.0)
of_fault (Err f) r out h e = refl

-- the room holds the bytes of the digits
pub decoded : (text : List ℕ) (l k : ℕ) (r : Result (Unit {0}) FromHexError) (out : List ℕ) → l ≡ k
    → MatchResult (decode_sized text l) (λ bytes. (r ≡ Ok tt) × (out ≡ bytes)) (λ e. r ≡ Err e) → is_err r ≡ false
    → Some out ≡ result_ok (decode_sized text k)
decoded text l k r out e h ok = rw (← e) (of_answer (decode_sized text l) r out h ok)

-- the text is not the digits of this many bytes
pub not_decoded : (text : List ℕ) (l k : ℕ) (r : Result (Unit {0}) FromHexError) (out : List ℕ) → l ≡ k
    → MatchResult (decode_sized text l) (λ bytes. (r ≡ Ok tt) × (out ≡ bytes)) (λ e. r ≡ Err e) → is_err r ≡ true
    → None ≡ result_ok (decode_sized text k)
not_decoded text l k r out e h bad = rw (← e) (of_fault (decode_sized text l) r out h bad)
