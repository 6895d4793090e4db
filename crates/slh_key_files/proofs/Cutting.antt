-- A text in lines of 64 characters.
use Rattle.std.proofs.Common.{◌≡◌, ℕ, zero, suc, ◌+◌, ◌-◌, ◌*◌, ◌/◌, ◌<◌, ◌≤◌, inl, inr, [], ◌∷◌, ◌++◌, length, take, drop, slice_index, refl, ap, ◌∙◌, arith}
use Rattle.std.proofs.lemmas.Bool.{cases_lt}
use Rattle.std.proofs.lemmas.List.{append_assoc, append-nil, drop-drop, drop_all, get_or-drop, get_or-take, get_or_append_left, length-append, length-drop, length-take, length-take-le, take_all}
use Rattle.std.proofs.Math.Seq.{get_or-append_right}
use Prim.Native.Nat.{min}
use Rattle.std.proofs.lemmas.Slice.{take-put_mid}
use borrow.Rule.Slice.PartMut.{put_mid}
use Rattle.slh_key_files.specs.Lines.{Text, line}
use Rattle.slh_key_files.specs.Base64Lines.{in_lines, line_count}

-- a character of the text is as many places on as lines end before it
pub at_place : (count : ℕ) (chars more : Text) (i : ℕ) → length chars ≤ 64 * count → i < length chars
    → slice_index (in_lines count chars ++ more) (i + i / 64) ≡ slice_index chars i
unfolding in_lines
at_place zero chars more i enough lt = absurd (omega arith)
at_place (suc count) chars more i enough lt = elim (cases_lt i 64) [
  | inl near ↦ whole ∙ near_is near
  | inr far ↦
      let left : length (drop 64 chars) ≡ length chars - 64 = length-drop 64 chars in
      whole ∙ far_is far ∙ at_place count (drop 64 chars) more (i - 64) (omega arith) (omega arith) ∙ here far
]
  where
    front : Text
    front = take 64 chars

    rest : Text
    rest = in_lines count (drop 64 chars) ++ more

    whole : slice_index ((line front ++ in_lines count (drop 64 chars)) ++ more) (i + i / 64) ≡ slice_index (front ++ 10 ∷ rest) (i + i / 64)
    whole = rw (append_assoc (line front) (in_lines count (drop 64 chars)) more, append_assoc front (10 ∷ []) rest) refl

    near_is : i < 64 → slice_index (front ++ 10 ∷ rest) (i + i / 64) ≡ slice_index chars i
    near_is near =
        let z : i + i / 64 ≡ i = omega arith in
        let inside : i < length front = omega (arith, length-take 64 chars) in
        rw z (get_or_append_left front (10 ∷ rest) 0 i inside ∙ get_or-take 64 chars i 0 near)

    far_is : 64 ≤ i → slice_index (front ++ 10 ∷ rest) (i + i / 64) ≡ slice_index rest (i - 64 + (i - 64) / 64)
    far_is far =
        let len : length front ≡ 64 = length-take-le 64 chars (omega arith) in
        let on : i + i / 64 - length front ≡ suc (i - 64 + (i - 64) / 64) = omega arith in
        get_or-append_right front (10 ∷ rest) (i + i / 64) 0 (omega arith) ∙ rw on refl

    here : 64 ≤ i → slice_index (drop 64 chars) (i - 64) ≡ slice_index chars i
    here far = let e : 64 + (i - 64) ≡ i = omega arith in get_or-drop 64 chars (i - 64) 0 ∙ rw e refl

-- the next line, and those after it
lines_more : (count : ℕ) (chars : Text) (i : ℕ) → i < count
    → in_lines (count - i) (drop (64 * i) chars) ≡ line (take 64 (drop (64 * i) chars)) ++ in_lines (count - (i + 1)) (drop (64 * (i + 1)) chars)
unfolding in_lines
lines_more count chars i lt =
    let e : count - i ≡ suc (count - (i + 1)) = omega arith in
    let on : 64 * i + 64 ≡ 64 * (i + 1) = omega arith in
    let d : drop 64 (drop (64 * i) chars) ≡ drop (64 * (i + 1)) chars = drop-drop 64 (64 * i) chars ∙ rw on refl in
    rw (e, d) refl

-- a line that was written at its place
line_written : (chars text ys : Text) (i end : ℕ) → 64 * i ≤ length chars → length text ≡ length chars + line_count (length chars) → i < line_count (length chars)
    → end ≡ min (length chars) (64 * i + 64) → ys ≡ line (take (end - 64 * i) (drop (64 * i) chars))
    → take (65 * (i + 1)) (put_mid (65 * i) (end + i + 1 - 65 * i) text ys) ≡ take (65 * i) text ++ line (take 64 (drop (64 * i) chars))
line_written chars text ys i end begun sized lt e y = elim (cases_lt (length chars) (64 * i + 64)) [
  | inl last ↦ last_is last
  | inr full ↦ full_is full
]
  where
    rest : Text
    rest = drop (64 * i) chars

    left : length rest ≡ length chars - 64 * i
    left = length-drop (64 * i) chars

    full_is : 64 * i + 64 ≤ length chars → take (65 * (i + 1)) (put_mid (65 * i) (end + i + 1 - 65 * i) text ys) ≡ take (65 * i) text ++ line (take 64 rest)
    full_is full =
        let n : end - 64 * i ≡ 64 = omega arith in
        let y' : ys ≡ line (take 64 rest) = y ∙ rw n refl in
        let sixty : length (take 64 rest) ≡ 64 = length-take-le 64 rest (omega (arith, left)) in
        let len : length ys ≡ 65 = ap (λ (l : Text). length l) y' ∙ length-append (take 64 rest) (10 ∷ []) ∙ rw sixty refl in
        take-put_mid (65 * i) (end + i + 1 - 65 * i) text ys (65 * (i + 1)) (omega arith) (omega arith) ∙ rw y' refl

    last_is : length chars < 64 * i + 64 → take (65 * (i + 1)) (put_mid (65 * i) (end + i + 1 - 65 * i) text ys) ≡ take (65 * i) text ++ line (take 64 rest)
    last_is last =
        let whole : take (end - 64 * i) rest ≡ rest = take_all (end - 64 * i) rest (omega (arith, left)) in
        let same : take 64 rest ≡ rest = take_all 64 rest (omega (arith, left)) in
        let y' : ys ≡ line rest = y ∙ rw whole refl in
        let len : length ys ≡ length chars - 64 * i + 1 = ap (λ (l : Text). length l) y' ∙ omega (arith, left, length-append rest (10 ∷ [])) in
        let nothing : drop (65 * i + (end + i + 1 - 65 * i)) text ≡ [] = drop_all _ text (omega arith) in
        let all : put_mid (65 * i) (end + i + 1 - 65 * i) text ys ≡ take (65 * i) text ++ ys = rw (drop-drop (end + i + 1 - 65 * i) (65 * i) text, nothing, append-nil) refl in
        rw (all, same, y') (take_all (65 * (i + 1)) (take (65 * i) text ++ line rest)
        (omega (arith, left, length-append (take (65 * i) text) (line rest), length-append rest (10 ∷ []), length-take-le (65 * i) text (omega arith))))

-- one line more is written
pub lines_step : (chars text ys : Text) (i end : ℕ) → 64 * i ≤ length chars → length text ≡ length chars + line_count (length chars) → i < line_count (length chars)
    → end ≡ min (length chars) (64 * i + 64) → ys ≡ line (take (end - 64 * i) (drop (64 * i) chars))
    → take (65 * i) text ++ in_lines (line_count (length chars) - i) (drop (64 * i) chars) ≡ in_lines (line_count (length chars)) chars
    → take (65 * (i + 1)) (put_mid (65 * i) (end + i + 1 - 65 * i) text ys) ++ in_lines (line_count (length chars) - (i + 1)) (drop (64 * (i + 1)) chars)
    ≡ in_lines (line_count (length chars)) chars
lines_step chars text ys i end begun sized lt e y inv =
    rw (line_written chars text ys i end begun sized lt e y, append_assoc, ← lines_more (line_count (length chars)) chars i lt) inv

-- all lines are written
pub lines_done : (chars text : Text) (i : ℕ) → length text ≡ length chars + line_count (length chars) → i ≡ line_count (length chars)
    → take (65 * i) text ++ in_lines (line_count (length chars) - i) (drop (64 * i) chars) ≡ in_lines (line_count (length chars)) chars
    → text ≡ in_lines (line_count (length chars)) chars
unfolding in_lines
lines_done chars text i sized e inv =
    let none : line_count (length chars) - i ≡ zero = omega arith in
    let a = take_all (65 * i) text (omega arith) in
    rw (none, a, append-nil) at inv
