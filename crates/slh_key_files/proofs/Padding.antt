-- The base64 of bytes that do not fill a last group.
use Rattle.std.proofs.Common.{◌≡◌, ℕ, ◌+◌, ◌-◌, ◌*◌, ◌/◌, ◌<◌, true, ◌++◌, length, take, replicate, slice_index, refl, sym, ap, ◌∙◌, arith}
use Rattle.std.proofs.lemmas.List.{get_or_default, length-append, length-replicate, same_lists, take_at}
use Rattle.base64.specs.Rfc4648.{encode, encode_symbols, padding_len}
use Rattle.base64.proofs.RoundTrip.{length-encode_symbols}
use Rattle.slh_key_files.specs.Base64Lines.{base64_lines, characters, chars_len, in_lines, line_count}
use Rattle.slh_key_files.specs.Lines.{Text}
use Rattle.slh_key_files.proofs.Cutting.{at_place}
use Rattle.slh_key_files.proofs.Groups.{with_zeros}

-- the characters of a message, of which those after its last bits are another
ended : (m chars : Text) (end was : ℕ) → chars ≡ encode_symbols characters m ++ replicate (padding_len (length m)) was
    → take ((length m + 2) / 3 + length m) chars ++ replicate (length chars - ((length m + 2) / 3 + length m)) end
    ≡ encode_symbols characters m ++ replicate (padding_len (length m)) end
ended m chars end was e =
    let n : ℕ = (length m + 2) / 3 + length m in
    let symbols : Text = encode_symbols characters m in
    let len : length symbols ≡ n = length-encode_symbols characters m ∙ omega arith in
    let pad : length chars - n ≡ padding_len (length m) =
    omega (arith, len, ap (λ (l : Text). length l) e, length-append symbols (replicate (padding_len (length m)) was), length-replicate {A = ℕ} (padding_len (length m)) was) in
    let front : take n chars ≡ symbols = ap (λ (l : Text). take n l) e ∙ take_at symbols (replicate (padding_len (length m)) was) n len in
    rw (front, pad) refl

pub length-encode : (m : Text) → length (encode characters 61 true m) ≡ chars_len (length m)
length-encode m =
    length-append (encode_symbols characters m) (replicate (padding_len (length m)) 61)
    ∙ rw (length-encode_symbols characters m, length-replicate {A = ℕ} (padding_len (length m)) 61) (omega arith)

-- what is written is the base64
pub put_is : (m whole groups chars text : Text) → whole ≡ m ++ replicate (length whole - length m) 0 → length whole ≡ 3 * ((length m + 2) / 3)
    → groups ≡ encode_symbols characters whole
    → chars ≡ take ((length m + 2) / 3 + length m) groups ++ replicate (length groups - ((length m + 2) / 3 + length m)) 61
    → text ≡ in_lines (line_count (length chars)) chars → text ≡ base64_lines m
put_is m whole groups chars text e len f g h =
    let k : length whole - length m ≡ padding_len (length m) = omega arith in
    let zeros : groups ≡ encode_symbols characters m ++ replicate (padding_len (length m)) 65 = f ∙ ap (encode_symbols characters) (e ∙ rw k refl) ∙ with_zeros m in
    let is : chars ≡ encode characters 61 true m = g ∙ ended m groups 61 65 zeros in
    let n : length chars ≡ chars_len (length m) = ap (λ (l : Text). length l) is ∙ length-encode m in
    h ∙ rw n (ap (in_lines (line_count (chars_len (length m)))) is)

-- what is taken is the base64
pub get_is : (m more text taken chars : Text) → text ≡ base64_lines m ++ more → length taken ≡ 4 * ((length m + 2) / 3)
    → ((i : ℕ) → i < length taken → slice_index taken i ≡ slice_index text (i + i / 64))
    → chars ≡ take ((length m + 2) / 3 + length m) taken ++ replicate (length taken - ((length m + 2) / 3 + length m)) 65
    → chars ≡ encode_symbols characters (m ++ replicate (padding_len (length m)) 0)
get_is m more text taken chars e len places g =
    let all : Text = encode characters 61 true m in
    let n : length all ≡ chars_len (length m) = length-encode m in
    let one = λ (i : ℕ) (lt : i < length taken).
    places i lt ∙ ap (λ (l : Text). slice_index l (i + i / 64)) e ∙ at_place (line_count (chars_len (length m))) all more i (omega arith) (omega arith) in
    let same : taken ≡ all = same_lists taken all (omega arith) (λ i d lt. get_or_default taken i d 0 lt ∙ one i lt ∙ get_or_default all i 0 d (omega arith)) in
    g ∙ ended m taken 65 61 same ∙ sym (with_zeros m)
