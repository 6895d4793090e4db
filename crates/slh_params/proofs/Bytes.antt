-- Numbers as bytes and back.
use Rattle.std.proofs.Common.{◌≡◌, ℕ, zero, suc, ◌-◌, ◌≤◌, lit<, inl, inr, ◌+◌, ◌*◌, ◌%◌, ◌/◌, ◌^◌, ◌<◌, List, [], ◌∷◌, ◌++◌, length, get_or, take, drop, refl, arith, set, add-one, sym, ap, ◌∙◌}
use Rattle.std.specs.Int.{w32, w64, from_be_bytes, byte_at}
use Rattle.std.specs.List.{between}
use Rattle.std.proofs.lemmas.Nat.{be_bytes_4, be_bytes_8, mod_below, mod-pow-add}
use Rattle.std.proofs.lemmas.List.{get_or_past, length-take-le, length-drop, drop-drop, take-append-drop, take_all, drop_more, drop-set, append_assoc}
use Rattle.std.proofs.Math.Nat.{pow-le-pow_right, div-div-eq-div-mul, pow-succ'}
use Rattle.slh_params.specs.Bits.{to_int, to_byte, AllBytes}
use Rattle.slh_params.specs.Address.{Address, compressed, full}
use Rattle.slh_params.specs.AdrsBytes.{fields_of}
use borrow.Rule.Slice.PartMut.{put_mid}
use Rattle.std.proofs.lemmas.List.Elements.{All-nil, All-cons, All-append, All-take, All-drop, All-same, recursion_from_All, All-from_get_or}
use Rattle.std.proofs.lemmas.Int.Digits.{number_lt, number_push}
use Rattle.std.proofs.lemmas.Bool.{cases_lt}

pub to_int_four : (bs : List ℕ) → length bs ≡ 4 → to_int bs ≡ from_be_bytes w32 bs
to_int_four (a ∷ b ∷ c ∷ d ∷ []) e = omega arith
to_int_four [] e = absurd (omega (arith, e))
to_int_four (a ∷ []) e = absurd (omega (arith, e))
to_int_four (a ∷ b ∷ []) e = absurd (omega (arith, e))
to_int_four (a ∷ b ∷ c ∷ []) e = absurd (omega (arith, e))
to_int_four (a ∷ b ∷ c ∷ d ∷ x ∷ xs) e = absurd (omega (arith, e))

pub to_byte-to_int_4 : (bs : List ℕ) → length bs ≡ 4 → ((i : ℕ) → get_or bs i 0 < 256) → to_byte (to_int bs) 4 ≡ bs
to_byte-to_int_4 bs e h = be_bytes_4 bs (to_int bs) e h (to_int_four bs e)

pub to_int_eight : (bs : List ℕ) → length bs ≡ 8 → to_int bs ≡ from_be_bytes w64 bs
to_int_eight (a ∷ b ∷ c ∷ d ∷ p ∷ q ∷ r ∷ s ∷ []) e = omega arith
to_int_eight [] e = absurd (omega (arith, e))
to_int_eight (a ∷ []) e = absurd (omega (arith, e))
to_int_eight (a ∷ b ∷ []) e = absurd (omega (arith, e))
to_int_eight (a ∷ b ∷ c ∷ []) e = absurd (omega (arith, e))
to_int_eight (a ∷ b ∷ c ∷ d ∷ []) e = absurd (omega (arith, e))
to_int_eight (a ∷ b ∷ c ∷ d ∷ p ∷ []) e = absurd (omega (arith, e))
to_int_eight (a ∷ b ∷ c ∷ d ∷ p ∷ q ∷ []) e = absurd (omega (arith, e))
to_int_eight (a ∷ b ∷ c ∷ d ∷ p ∷ q ∷ r ∷ []) e = absurd (omega (arith, e))
to_int_eight (a ∷ b ∷ c ∷ d ∷ p ∷ q ∷ r ∷ s ∷ x ∷ xs) e = absurd (omega (arith, e))

pub to_byte-to_int_8 : (bs : List ℕ) → length bs ≡ 8 → ((i : ℕ) → get_or bs i 0 < 256) → to_byte (to_int bs) 8 ≡ bs
to_byte-to_int_8 bs e h = be_bytes_8 bs (to_int bs) e h (to_int_eight bs e)

-- ---- bytes in range

pub AllBytes-to_byte : (x l : ℕ) → AllBytes (to_byte x l)
AllBytes-to_byte x zero = All-nil (λ b. b < 256)
AllBytes-to_byte x (suc zero) = All-cons (λ b. b < 256) _ [] (omega arith) (All-nil (λ b. b < 256))
AllBytes-to_byte x (suc (suc l)) = All-cons (λ b. b < 256) _ (to_byte x (suc l)) (mod_below _ 256 (lit< tt)) (AllBytes-to_byte x (suc l))

pub AllBytes-put_mid : (a k : ℕ) (xs ys : List ℕ) → AllBytes xs → AllBytes ys → AllBytes (put_mid a k xs ys)
AllBytes-put_mid a k xs ys p q =
    let P : ℕ → Type 0 = λ b. b < 256 in
    All-append P _ _ (All-take P a xs p) (All-append P _ _ q (All-drop P k _ (All-drop P a xs p)))

-- the bytes of a number, however they are called
pub AllBytes-written : (x l : ℕ) (bytes : List ℕ) → bytes ≡ to_byte x l → AllBytes bytes
AllBytes-written x l bytes e = let P : ℕ → Type 0 = λ b. b < 256 in All-same P bytes (to_byte x l) e (AllBytes-to_byte x l)

pub below : (b : List ℕ) → AllBytes b → (k : ℕ) → get_or b k 0 < 256
below b p k = elim (cases_lt k (length b)) [ inl l ↦ p k 0 l | inr g ↦ rw (get_or_past b k 0 g) (lit< tt) ]

within : (b : List ℕ) (i j : ℕ) → AllBytes b → (k : ℕ) → get_or (between i j b) k 0 < 256
within b i j p =
    let P : ℕ → Type 0 = λ b. b < 256 in
    below (between i j b) (All-take P _ _ (All-drop P i b p))

-- ---- the 22 bytes in parts

length-part : (b : List ℕ) (i n : ℕ) → i + n ≤ length b → length (take n (drop i b)) ≡ n
length-part b i n h = length-take-le n (drop i b) (omega (arith, length-drop i b))

join-part : (b : List ℕ) (i n : ℕ) → take n (drop i b) ++ drop (i + n) b ≡ drop i b
join-part b i n = rw (← drop-drop n i b) (take-append-drop n (drop i b))

-- one part more, from the end
pub split : (b : List ℕ) → length b ≡ 22
    → (get_or b 0 0 ∷ between 1 9 b) ++ (get_or b 9 0 ∷ (between 10 14 b ++ (between 14 18 b ++ between 18 22 b))) ≡ b
split b e =
    let p1 : between 18 22 b ≡ drop 18 b = take_all 4 (drop 18 b) (omega (arith, length-drop 18 b)) in
    let p2 : between 14 18 b ++ drop 18 b ≡ drop 14 b = join-part b 14 4 in
    let p3 : between 10 14 b ++ drop 14 b ≡ drop 10 b = join-part b 10 4 in
    let p4 : drop 9 b ≡ get_or b 9 0 ∷ drop 10 b = drop_more b 9 0 (omega arith) in
    let p5 : between 1 9 b ++ drop 9 b ≡ drop 1 b = join-part b 1 8 in
    let p6 : b ≡ get_or b 0 0 ∷ drop 1 b = drop_more b 0 0 (omega arith) in
    rw (p1, p2, p3, ← p4, p5) (sym p6)

pub compressed-fields_of : (b : List ℕ) → length b ≡ 22 → AllBytes b → compressed (fields_of b) ≡ b
compressed-fields_of b e h =
    let t = to_byte-to_int_8 (between 1 9 b) (length-part b 1 8 (omega arith)) (within b 1 9 h) in
    let x = to_byte-to_int_4 (between 10 14 b) (length-part b 10 4 (omega arith)) (within b 10 14 h) in
    let y = to_byte-to_int_4 (between 14 18 b) (length-part b 14 4 (omega arith)) (within b 14 18 h) in
    let z = to_byte-to_int_4 (between 18 22 b) (length-part b 18 4 (omega arith)) (within b 18 22 h) in
    let l : get_or b 0 0 % 256 ≡ get_or b 0 0 = omega (arith, below b h 0) in
    let k : get_or b 9 0 % 256 ≡ get_or b 9 0 = omega (arith, below b h 9) in
    let shape : compressed (fields_of b) ≡ (get_or b 0 0 % 256 ∷ to_byte (to_int (between 1 9 b)) 8) ++ (get_or b 9 0 % 256 ∷ (to_byte (to_int (between 10 14 b)) 4 ++ (to_byte (to_int (between 14 18 b)) 4 ++ to_byte (to_int (between 18 22 b)) 4))) = refl in
    let parts : (get_or b 0 0 % 256 ∷ to_byte (to_int (between 1 9 b)) 8) ++ (get_or b 9 0 % 256 ∷ (to_byte (to_int (between 10 14 b)) 4 ++ (to_byte (to_int (between 14 18 b)) 4 ++ to_byte (to_int (between 18 22 b)) 4))) ≡ (get_or b 0 0 ∷ between 1 9 b) ++ (get_or b 9 0 ∷ (between 10 14 b ++ (between 14 18 b ++ between 18 22 b))) = cc in
    shape ∙ parts ∙ split b e

pub full-fields_of : (b : List ℕ) → length b ≡ 22 → AllBytes b
    → full (fields_of b) ≡ 0 ∷ 0 ∷ 0 ∷ get_or b 0 0 ∷ 0 ∷ 0 ∷ 0 ∷ 0 ∷ get_or b 1 0 ∷ get_or b 2 0 ∷ get_or b 3 0 ∷ get_or b 4 0 ∷ get_or b 5 0 ∷ get_or b 6 0 ∷ get_or b 7 0 ∷ get_or b 8 0 ∷ 0 ∷ 0 ∷ 0 ∷ get_or b 9 0 ∷ get_or b 10 0 ∷ get_or b 11 0 ∷ get_or b 12 0 ∷ get_or b 13 0 ∷ get_or b 14 0 ∷ get_or b 15 0 ∷ get_or b 16 0 ∷ get_or b 17 0 ∷ get_or b 18 0 ∷ get_or b 19 0 ∷ get_or b 20 0 ∷ get_or b 21 0 ∷ []
full-fields_of b e h =
    let a : Address = fields_of b in
    let c : compressed a ≡ b = compressed-fields_of b e h in
    let l = below b h 0 in
    let k = below b h 9 in
    let P : ℕ → Type 0 = λ x. x < 256 in
    let part : AllBytes (between 1 9 b) = All-take P 8 _ (All-drop P 1 b h) in
    let t : to_int (between 1 9 b) < 2 ^ 64 = rw (length-part b 1 8 (omega arith)) at (number_lt 256 (between 1 9 b) (recursion_from_All P _ part)) in
    let l24 : a.layer / 16777216 % 256 ≡ 0 = omega (arith, l) in
    let k24 : a.kind / 16777216 % 256 ≡ 0 = omega (arith, k) in
    let l16 : a.layer / 65536 % 256 ≡ 0 = omega (arith, l) in
    let k16 : a.kind / 65536 % 256 ≡ 0 = omega (arith, k) in
    let l8 : a.layer / 256 % 256 ≡ 0 = omega (arith, l) in
    let k8 : a.kind / 256 % 256 ≡ 0 = omega (arith, k) in
    let t88 : a.tree / 309485009821345068724781056 % 256 ≡ 0 = omega (arith, t) in
    let t80 : a.tree / 1208925819614629174706176 % 256 ≡ 0 = omega (arith, t) in
    let t72 : a.tree / 4722366482869645213696 % 256 ≡ 0 = omega (arith, t) in
    let t64 : a.tree / 18446744073709551616 % 256 ≡ 0 = omega (arith, t) in
    let g0 : get_or (compressed a) 0 0 ≡ get_or b 0 0 = ap (λ xs. get_or xs 0 0) c in
    let g1 : get_or (compressed a) 1 0 ≡ get_or b 1 0 = ap (λ xs. get_or xs 1 0) c in
    let g2 : get_or (compressed a) 2 0 ≡ get_or b 2 0 = ap (λ xs. get_or xs 2 0) c in
    let g3 : get_or (compressed a) 3 0 ≡ get_or b 3 0 = ap (λ xs. get_or xs 3 0) c in
    let g4 : get_or (compressed a) 4 0 ≡ get_or b 4 0 = ap (λ xs. get_or xs 4 0) c in
    let g5 : get_or (compressed a) 5 0 ≡ get_or b 5 0 = ap (λ xs. get_or xs 5 0) c in
    let g6 : get_or (compressed a) 6 0 ≡ get_or b 6 0 = ap (λ xs. get_or xs 6 0) c in
    let g7 : get_or (compressed a) 7 0 ≡ get_or b 7 0 = ap (λ xs. get_or xs 7 0) c in
    let g8 : get_or (compressed a) 8 0 ≡ get_or b 8 0 = ap (λ xs. get_or xs 8 0) c in
    let g9 : get_or (compressed a) 9 0 ≡ get_or b 9 0 = ap (λ xs. get_or xs 9 0) c in
    let g10 : get_or (compressed a) 10 0 ≡ get_or b 10 0 = ap (λ xs. get_or xs 10 0) c in
    let g11 : get_or (compressed a) 11 0 ≡ get_or b 11 0 = ap (λ xs. get_or xs 11 0) c in
    let g12 : get_or (compressed a) 12 0 ≡ get_or b 12 0 = ap (λ xs. get_or xs 12 0) c in
    let g13 : get_or (compressed a) 13 0 ≡ get_or b 13 0 = ap (λ xs. get_or xs 13 0) c in
    let g14 : get_or (compressed a) 14 0 ≡ get_or b 14 0 = ap (λ xs. get_or xs 14 0) c in
    let g15 : get_or (compressed a) 15 0 ≡ get_or b 15 0 = ap (λ xs. get_or xs 15 0) c in
    let g16 : get_or (compressed a) 16 0 ≡ get_or b 16 0 = ap (λ xs. get_or xs 16 0) c in
    let g17 : get_or (compressed a) 17 0 ≡ get_or b 17 0 = ap (λ xs. get_or xs 17 0) c in
    let g18 : get_or (compressed a) 18 0 ≡ get_or b 18 0 = ap (λ xs. get_or xs 18 0) c in
    let g19 : get_or (compressed a) 19 0 ≡ get_or b 19 0 = ap (λ xs. get_or xs 19 0) c in
    let g20 : get_or (compressed a) 20 0 ≡ get_or b 20 0 = ap (λ xs. get_or xs 20 0) c in
    let g21 : get_or (compressed a) 21 0 ≡ get_or b 21 0 = ap (λ xs. get_or xs 21 0) c in
    cc

-- ---- loops over bytes

pub to_int_small : (bs : List ℕ) (i v : ℕ) → i < length bs → length bs ≤ 8 → ((k : ℕ) → get_or bs k 0 < 256)
    → v ≡ to_int (take i bs) → v < 2 ^ 56
to_int_small bs i v h l r e =
    let P : ℕ → Type 0 = λ b. b < 256 in
    let all : AllBytes bs = All-from_get_or P bs 0 (λ k _. r k) in
    let n : to_int (take i bs) < 256 ^ i =
    rw (length-take-le i bs (omega arith)) at (number_lt 256 (take i bs) (recursion_from_All P _ (All-take P i bs all))) in
    let f : i ≤ 7 = omega arith in
    let s : 256 ^ i ≤ 256 ^ 7 = pow-le-pow_right {n = 256} (lit< tt) f in
    omega (arith, n, s)

byte_at-low : (l x : ℕ) → byte_at (suc l) x ≡ byte_at l (x / 256)
byte_at-low zero x = refl
byte_at-low (suc l) x = rw (div-div-eq-div-mul x 256 (256 ^ suc l), ← pow-succ' 256 (suc l)) refl

pub to_byte_low : (x l : ℕ) → to_byte x (suc l) ≡ to_byte (x / 256) l ++ (x % 256) ∷ []
to_byte_low x zero = refl
to_byte_low x (suc l) = rw (byte_at-low l x) (ap (λ t. byte_at l (x / 256) ∷ t) (to_byte_low x l))

pub writes_byte : (x i : ℕ) (out all : List ℕ) → 0 < i → i ≤ length out
    → to_byte x i ++ drop i out ≡ all → to_byte (x / 256) (i - 1) ++ drop (i - 1) (set out (i - 1) (x % 256)) ≡ all
writes_byte x zero out all p h e = absurd (omega (arith, p))
writes_byte x (suc j) out all p h e =
    let s : suc j - 1 ≡ j = omega arith in
    let d : drop j (set out j (x % 256)) ≡ (x % 256) ∷ drop (suc j) out = rw (add-one j) at (drop-set out j (x % 256) (omega (arith, h))) in
    let t = to_byte_low x j in
    rw (s, d, ← append_assoc (to_byte (x / 256) j) ((x % 256) ∷ []) (drop (suc j) out), ← t) e

-- ---- the law of toByte

pub to_int-to_byte : (x l : ℕ) → to_int (to_byte x l) ≡ x % 2 ^ (8 * l)
to_int-to_byte x zero = omega arith
to_int-to_byte x (suc l) =
    let e : 8 * suc l ≡ 8 * l + 8 = omega arith in
    rw (to_byte_low x l, number_push 256 (to_byte (x / 256) l) (x % 256), to_int-to_byte (x / 256) l, e, mod-pow-add x (8 * l) 8) refl

pub number_written : (x rest i n : ℕ) (out : List ℕ) → i ≤ 0 → length out ≡ n
    → to_byte rest i ++ drop i out ≡ to_byte x (length out) → to_int out ≡ x % 2 ^ (8 * n)
number_written x rest i n out h l inv =
    let z : i ≡ 0 = omega arith in
    let w : out ≡ to_byte x (length out) = rw z at inv in
    rw (w, l) (to_int-to_byte x n)
