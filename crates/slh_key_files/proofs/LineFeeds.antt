-- Lines that end at a line feed.
use Rattle.std.proofs.Common.{◌≡◌, ℕ, suc, ◌+◌, ◌<◌, ◌==◌, Bool, true, false, not, cond, ltb, ◌⊎◌, inl, inr, [], ◌∷◌, ◌++◌, length, take, drop, Option, Some, None, unwrap_or, refl, sym, ap, ◌∙◌, arith, length-append, append-nil, get_or, drop-cons, add-one}
use Rattle.std.proofs.Math.Seq.{take-append_seam, drop-append-add}
use Rattle.std.proofs.lemmas.Bool.{and_parts, eqb-true}
use Rattle.std.proofs.lemmas.Bool.Decides.{nat_tests}
use Rattle.std.proofs.lemmas.List.{take-append-drop}
use Rattle.std.proofs.lemmas.List.Sums.{passes_at_first}
use Rattle.std.specs.List.{list_all, position_or_len, prefix_len}
use Rattle.std.specs.Prelude.{option_map}
use borrow.Author.Tests.{ltb-true}
use Rattle.slh_key_files.specs.Lines.{Text, cut_line, last_line}

-- a byte that ends no line
abbrev pub no_feed : ℕ → Bool
no_feed b = not (b == 10)

-- the first line feed is the one after a line that has none
first_feed : (line rest : Text) → list_all no_feed line ≡ true → prefix_len no_feed (line ++ 10 ∷ rest) ≡ length line
first_feed [] rest h = refl
first_feed (b ∷ bs) rest h =
    let parts = and_parts (no_feed b) (list_all no_feed bs) h in
    rw (parts.0, first_feed bs rest parts.1) (omega arith)

-- a text with no line feed
no_feeds : (line : Text) → list_all no_feed line ≡ true → prefix_len no_feed line ≡ length line
no_feeds [] h = refl
no_feeds (b ∷ bs) h =
    let parts = and_parts (no_feed b) (list_all no_feed bs) h in
    rw (parts.0, no_feeds bs parts.1) (omega arith)

-- a line and its line feed are cut off
pub cut_line-at : (line rest : Text) → list_all no_feed line ≡ true → cut_line (line ++ 10 ∷ rest) ≡ Some (line, rest)
cut_line-at line rest h =
    let place = first_feed line rest h in
    let len = length-append line (10 ∷ rest) in
    let below : ltb (length line) (length (line ++ 10 ∷ rest)) ≡ true = grind (arith, nat_tests, len) in
    rw (place, below, take-append_seam line (10 ∷ rest), drop-append-add line (10 ∷ rest) 1) refl

-- nothing is cut off a text with no line feed
pub cut_line-none : (line : Text) → list_all no_feed line ≡ true → cut_line line ≡ None
cut_line-none line h =
    let place = no_feeds line h in
    let same : ltb (length line) (length line) ≡ false = grind (arith, nat_tests) in
    rw (place, same) refl

some_pair : (x y : Text × Text) → Some x ≡ Some y → (x.0 ≡ y.0) × (x.1 ≡ y.1)
some_pair x y h =
    let e : x ≡ y = cc h in
    (ap (λ (q : Text × Text). q.0) e, ap (λ (q : Text × Text). q.1) e)

-- what was cut at the first line feed
from_place : (bytes line rest : Text) (t : Bool) → t ≡ ltb (position_or_len (λ b. b == 10) bytes) (length bytes)
    → option_map {U = Text × Text} (λ i. (take i bytes, drop (i + 1) bytes)) (cond t (Some (position_or_len (λ b. b == 10) bytes)) None) ≡ Some (line, rest)
    → bytes ≡ line ++ 10 ∷ rest
from_place bytes line rest true e h =
    let p = position_or_len (λ b. b == 10) bytes in
    let lt : p < length bytes = ltb-true _ _ (sym e) in
    let feed : get_or bytes p 0 ≡ 10 = eqb-true _ _ (passes_at_first (λ b. b == 10) bytes 0 lt) in
    let whole : take p bytes ++ get_or bytes p 0 ∷ drop (suc p) bytes ≡ bytes = rw (← drop-cons bytes p 0 lt) (take-append-drop p bytes) in
    let parts = some_pair (take p bytes, drop (p + 1) bytes) (line, rest) h in
    let front : take p bytes ≡ line = parts.0 in
    let back : drop (suc p) bytes ≡ rest = rw (← add-one p) parts.1 in
    sym whole ∙ rw (feed, front, back) refl
from_place bytes line rest false e h = cc h

-- what was cut, put together again
pub cut_line-Some : (bytes line rest : Text) → cut_line bytes ≡ Some (line, rest) → bytes ≡ line ++ 10 ∷ rest
cut_line-Some bytes line rest h = from_place bytes line rest _ refl h

-- the last line, and its line feed or nothing
pub last_line-at : (line ending : Text) → list_all no_feed line ≡ true → (ending ≡ []) ⊎ (ending ≡ 10 ∷ []) → last_line (line ++ ending) ≡ (line, [])
last_line-at line ending h (inl e) = rw (e, append-nil line, cut_line-none line h) refl
last_line-at line ending h (inr e) = rw (e, cut_line-at line [] h) refl

-- a text whose last line nothing follows
pub last_line-whole : (bytes : Text) (cut : Option (Text × Text)) → cut_line bytes ≡ cut → (unwrap_or cut (bytes, [])).1 ≡ []
    → (ending : Text) × ((ending ≡ []) ⊎ (ending ≡ 10 ∷ [])) × (bytes ≡ (unwrap_or cut (bytes, [])).0 ++ ending)
last_line-whole bytes None e h = ([], inl refl, sym (append-nil bytes))
last_line-whole bytes (Some parts) e h = (10 ∷ [], inr refl, cut_line-Some bytes parts.0 parts.1 e ∙ rw h refl)
