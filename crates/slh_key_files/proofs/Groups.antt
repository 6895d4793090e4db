-- Groups of three bytes and of four characters, and the padding of the last one.
use Rattle.std.proofs.Common.{◌≡◌, ℕ, zero, suc, add-zero, ◌+◌, ◌*◌, ◌/◌, ◌%◌, ◌<◌, ◌≤◌, List, [], ◌∷◌, ◌++◌, length, take, drop, replicate, slice_index, slice_set, refl, sym, ap, ◌∙◌, arith}
use Rattle.std.proofs.lemmas.List.{append_assoc, append-nil, drop_all, get_or-drop, length-set, take_all, take_more, take_more_set}
use Rattle.hex.specs.Hex.{IsBytes}
use Rattle.base64.specs.Rfc4648.{encode_group, encode_symbols, padding_len}
use Rattle.base64.proofs.Encoding.{encode_symbols-drop_group}
use Rattle.base64.proofs.RoundTrip.{drop_encoded}
use Rattle.slh_key_files.specs.Base64Lines.{characters}

-- three and four writes in a row, seen from the front
three_writes : (xs : List ℕ) (o x y z : ℕ) → o + 2 < length xs
    → take (o + 3) (slice_set (slice_set (slice_set xs o x) (o + 1) y) (o + 2) z) ≡ take o xs ++ (x ∷ y ∷ z ∷ [])
three_writes xs o x y z fits =
    let s1 : List ℕ = slice_set xs o x in
    let s2 : List ℕ = slice_set s1 (o + 1) y in
    let la : length s1 ≡ length xs = length-set xs o x in
    let lb : length s2 ≡ length s1 = length-set s1 (o + 1) y in
    let two : o + 1 + 1 ≡ o + 2 = omega arith in
    let three : o + 2 + 1 ≡ o + 3 = omega arith in
    let a = take_more_set xs o x (omega arith) in
    let b = take_more_set s1 (o + 1) y (omega arith) in
    let c = take_more_set s2 (o + 2) z (omega arith) in
    rw (← three, c, ← two, b, a) (simp append_assoc refl)

four_writes : (xs : List ℕ) (o w x y z : ℕ) → o + 3 < length xs
    → take (o + 4) (slice_set (slice_set (slice_set (slice_set xs o w) (o + 1) x) (o + 2) y) (o + 3) z) ≡ take o xs ++ (w ∷ x ∷ y ∷ z ∷ [])
four_writes xs o w x y z fits =
    let s1 : List ℕ = slice_set xs o w in
    let s2 : List ℕ = slice_set s1 (o + 1) x in
    let s3 : List ℕ = slice_set s2 (o + 2) y in
    let la : length s1 ≡ length xs = length-set xs o w in
    let lb : length s2 ≡ length s1 = length-set s1 (o + 1) x in
    let lc : length s3 ≡ length s2 = length-set s2 (o + 2) y in
    let four : o + 3 + 1 ≡ o + 4 = omega arith in
    let a = three_writes xs o w x y (omega arith) in
    let b = take_more_set s3 (o + 3) z (omega arith) in
    rw (← four, b, a) (simp append_assoc refl)

take_three : (m : List ℕ) (i : ℕ) → i + 3 ≤ length m → take (i + 3) m ≡ take i m ++ slice_index m i ∷ slice_index m (i + 1) ∷ slice_index m (i + 2) ∷ []
take_three m i h =
    let a : take (i + 1) m ≡ take i m ++ slice_index m i ∷ [] = take_more m i 0 (omega arith) in
    let b : take (i + 1 + 1) m ≡ take (i + 1) m ++ slice_index m (i + 1) ∷ [] = take_more m (i + 1) 0 (omega arith) in
    let c : take (i + 1 + 1 + 1) m ≡ take (i + 1 + 1) m ++ slice_index m (i + 1 + 1) ∷ [] = take_more m (i + 1 + 1) 0 (omega arith) in
    let two : i + 1 + 1 ≡ i + 2 = omega arith in
    let three : i + 2 + 1 ≡ i + 3 = omega arith in
    rw (← three, ← two, c, b, a) (simp append_assoc refl)

-- one group more is written
pub encode_step : (bytes chars : List ℕ) (i w x y z : ℕ) → 3 * i + 3 ≤ length bytes → 4 * i + 4 ≤ length chars
    → w ∷ x ∷ y ∷ z ∷ [] ≡ encode_group characters (slice_index bytes (3 * i)) (slice_index bytes (3 * i + 1)) (slice_index bytes (3 * i + 2))
    → take (4 * i) chars ++ encode_symbols characters (drop (3 * i) bytes) ≡ encode_symbols characters bytes
    → take (4 * (i + 1)) (slice_set (slice_set (slice_set (slice_set chars (4 * i) w) (4 * i + 1) x) (4 * i + 2) y) (4 * i + 3) z)
    ++ encode_symbols characters (drop (3 * (i + 1)) bytes) ≡ encode_symbols characters bytes
encode_step bytes chars i w x y z in_bytes in_chars group inv =
    let e4 : 4 * (i + 1) ≡ 4 * i + 4 = omega arith in
    let e3 : 3 * (i + 1) ≡ 3 * i + 3 = omega arith in
    let now : List ℕ = slice_set (slice_set (slice_set (slice_set chars (4 * i) w) (4 * i + 1) x) (4 * i + 2) y) (4 * i + 3) z in
    let after : List ℕ = encode_symbols characters (drop (3 * i + 3) bytes) in
    let front : take (4 * (i + 1)) now ≡ take (4 * i) chars ++ (w ∷ x ∷ y ∷ z ∷ []) = rw e4 (four_writes chars (4 * i) w x y z (omega arith)) in
    let rest : encode_symbols characters (drop (3 * i) bytes) ≡ (w ∷ x ∷ y ∷ z ∷ []) ++ after =
    encode_symbols-drop_group characters bytes (3 * i) in_bytes ∙ ap (λ (l : List ℕ). l ++ after) (sym group) in
    ap (λ (l : List ℕ). l ++ encode_symbols characters (drop (3 * (i + 1)) bytes)) front
    ∙ ap (λ (k : ℕ). (take (4 * i) chars ++ (w ∷ x ∷ y ∷ z ∷ [])) ++ encode_symbols characters (drop k bytes)) e3
    ∙ append_assoc (take (4 * i) chars) (w ∷ x ∷ y ∷ z ∷ []) after
    ∙ ap (λ (l : List ℕ). take (4 * i) chars ++ l) (sym rest) ∙ inv

-- all groups are written
pub encode_done : (bytes chars : List ℕ) (i : ℕ) → length bytes ≤ 3 * i → length chars ≤ 4 * i
    → take (4 * i) chars ++ encode_symbols characters (drop (3 * i) bytes) ≡ encode_symbols characters bytes
    → chars ≡ encode_symbols characters bytes
unfolding encode_symbols
encode_done bytes chars i in_bytes in_chars inv =
    let d = drop_all (3 * i) bytes in_bytes in
    let a = take_all (4 * i) chars in_chars in
    rw (d, a, append-nil) at inv

-- what a byte of a character's value is
abbrev pub Reads : ℕ → ℕ → Type 0
Reads char value = (v : ℕ) → v < 64 → char ≡ slice_index characters v → value ≡ v

place : (s r : List ℕ) (i j : ℕ) → drop i s ≡ r → slice_index s (i + j) ≡ slice_index r j
place s r i j e = sym (get_or-drop i s j 0) ∙ ap (λ (l : List ℕ). slice_index l j) e

-- one group more is read
pub decode_step : (m chars bytes : List ℕ) (i w x y z : ℕ) → IsBytes m → 3 * i + 3 ≤ length m → 3 * i + 3 ≤ length bytes → chars ≡ encode_symbols characters m
    → Reads (slice_index chars (4 * i)) w → Reads (slice_index chars (4 * i + 1)) x → Reads (slice_index chars (4 * i + 2)) y → Reads (slice_index chars (4 * i + 3)) z
    → take (3 * i) bytes ≡ take (3 * i) m
    → take (3 * (i + 1)) (slice_set (slice_set (slice_set bytes (3 * i) (w * 4 + x / 16)) (3 * i + 1) (x % 16 * 16 + y / 4)) (3 * i + 2) (y % 4 * 64 + z))
    ≡ take (3 * (i + 1)) m
decode_step m chars bytes i w x y z are_bytes in_m in_bytes e rw' rx ry rz inv =
    let a : ℕ = slice_index m (3 * i) in
    let b : ℕ = slice_index m (3 * i + 1) in
    let c : ℕ = slice_index m (3 * i + 2) in
    let la : a < 256 = are_bytes (3 * i) in
    let lb : b < 256 = are_bytes (3 * i + 1) in
    let lc : c < 256 = are_bytes (3 * i + 2) in
    let r : List ℕ = encode_group characters a b c ++ encode_symbols characters (drop (3 * i + 3) m) in
    let at : drop (4 * i) chars ≡ r = ap (λ (l : List ℕ). drop (4 * i) l) (e ∙ sym (append-nil (encode_symbols characters m)))
    ∙ drop_encoded characters m [] i (omega arith) ∙ append-nil (encode_symbols characters (drop (3 * i) m)) ∙ encode_symbols-drop_group characters m (3 * i) in_m in
    let s0 : slice_index chars (4 * i) ≡ slice_index characters (a / 4) = rw add-zero at (place chars r (4 * i) 0 at) in
    let w' : w ≡ a / 4 = rw' (a / 4) (omega arith) s0 in
    let x' : x ≡ a % 4 * 16 + b / 16 = rx (a % 4 * 16 + b / 16) (omega arith) (place chars r (4 * i) 1 at) in
    let y' : y ≡ b % 16 * 4 + c / 64 = ry (b % 16 * 4 + c / 64) (omega arith) (place chars r (4 * i) 2 at) in
    let z' : z ≡ c % 64 = rz (c % 64) (omega arith) (place chars r (4 * i) 3 at) in
    let e0 : w * 4 + x / 16 ≡ a = omega arith in
    let e1 : x % 16 * 16 + y / 4 ≡ b = omega arith in
    let e2 : y % 4 * 64 + z ≡ c = omega arith in
    let e3 : 3 * (i + 1) ≡ 3 * i + 3 = omega arith in
    let front = three_writes bytes (3 * i) a b c (omega arith) in
    rw (e0, e1, e2, e3, front, inv, take_three m (3 * i) in_m) refl

-- the characters of a message with zeros up to a whole group
pub with_zeros : (m : List ℕ) → encode_symbols characters (m ++ replicate (padding_len (length m)) 0)
    ≡ encode_symbols characters m ++ replicate (padding_len (length m)) 65
unfolding encode_symbols
with_zeros [] = refl
with_zeros (a ∷ []) = simp add-zero refl
with_zeros (a ∷ b ∷ []) = simp add-zero refl
with_zeros (a ∷ b ∷ c ∷ rest) =
    let n : length (a ∷ b ∷ c ∷ rest) ≡ length rest + 3 = omega arith in
    let same : padding_len (length (a ∷ b ∷ c ∷ rest)) ≡ padding_len (length rest) = omega arith in
    rw (same, with_zeros rest) (sym (append_assoc (encode_group characters a b c) (encode_symbols characters rest) (replicate (padding_len (length rest)) 65)))

pub zeros_are_bytes : (m : List ℕ) (k : ℕ) → IsBytes m → IsBytes (m ++ replicate k 0)
zeros_are_bytes [] k h i = zeros k i
  where
    zeros : (k i : ℕ) → slice_index (replicate k 0) i < 256
    zeros zero i = omega arith
    zeros (suc k) zero = omega arith
    zeros (suc k) (suc i) = zeros k i
zeros_are_bytes (a ∷ m) k h zero = h zero
zeros_are_bytes (a ∷ m) k h (suc i) = zeros_are_bytes m k (λ j. h (suc j)) i
