-- Bytes that go out and come in by pieces.
use Rattle.std.proofs.Common.{length-append, length-drop, ◌≡◌, ◌≤◌, ◌+◌, ◌-◌, ℕ, List, [], ◌++◌, length, take, drop, Option, ap, subst, ◌∙◌, arith}
use Rattle.std.proofs.Math.Seq.{take-add, take-append-add}
use Rattle.std.proofs.lemmas.List.{take-append-le, length-take-le}
use Rattle.std.proofs.lemmas.Grind.{common_steps}
use Rattle.std.proofs.KnownBytes.{Appends-kept, Appends-nil, Appends-trans, Consumes-kept, Consumes-nil, Consumes-trans}
use Rattle.std.specs.Io.KnownBytes.{Appends, Consumes, Keeps}
use borrow.Rule.Slice.PartMut.{post_of, put_mid}

-- the rest of the bytes, as a slice from a place on
rest_whole : (bytes : List ℕ) (at : ℕ) → take (length bytes - at) (drop at bytes) ≡ drop at bytes
rest_whole bytes at = grind (arith, common_steps)

-- a prefix that was put, and then the prefix of the rest
pub more_put : (a b c : Option (List ℕ)) (bytes : List ℕ) (at n : ℕ) → Appends a b (take at bytes)
    → Appends b c (take n (take (length bytes - at) (drop at bytes))) → Appends a c (take (at + n) bytes)
more_put a b c bytes at n p q =
    rw (take-add at n bytes) (Appends-trans a b c (take at bytes) (take n (drop at bytes)) p (rw (rest_whole bytes at) at q))

-- a slice from a place on has the bytes from there
pub rest_length : (bytes : List ℕ) (at : ℕ) → length (take (length bytes - at) (drop at bytes)) ≡ length bytes - at
rest_length bytes at = rw (rest_whole bytes at) (length-drop at bytes)

-- a part that came in lies within the buffer
pub part_within : (a k n : ℕ) (xs ys : List ℕ) → a ≤ length xs → length ys ≡ k → n ≤ k → a + n ≤ length (put_mid a k xs ys)
part_within a k n xs ys within same few =
    omega (arith, length-append (take a xs) (ys ++ post_of a k xs), length-append ys (post_of a k xs), length-take-le a xs within)

-- the front of a buffer after a write to its part from a on
pub part_taken : (a k n : ℕ) (xs ys : List ℕ) → a ≤ length xs → length ys ≡ k → n ≤ k → take (a + n) (put_mid a k xs ys) ≡ take a xs ++ take n ys
part_taken a k n xs ys within same few =
    let z = ys ++ post_of a k xs in
    let e : length (take a xs) ≡ a = length-take-le a xs within in
    subst (λ (m : ℕ). take (m + n) (take a xs ++ z) ≡ take a xs ++ take n z) e (take-append-add (take a xs) z n)
    ∙ ap (λ (t : List ℕ). take a xs ++ t) (take-append-le n ys (post_of a k xs) (omega arith))

-- a prefix that was taken, and then the prefix of the rest
pub more_taken : (a b c : Option (List ℕ)) (room out : List ℕ) (at k n : ℕ) → at ≤ length room → length out ≡ k → n ≤ k
    → Consumes a b (take at room) → Consumes b c (take n out) → Consumes a c (take (at + n) (put_mid at k room out))
more_taken a b c room out at k n within same few p q =
    rw (part_taken at k n room out within same few) (Consumes-trans a b c (take at room) (take n out) p q)

-- after bytes were kept, what is taken then is taken from the start
pub kept_consumes : (a b c : Option (List ℕ)) (bs : List ℕ) → Keeps a b → Consumes b c bs → Consumes a c bs
kept_consumes a b c bs kept p = Consumes-trans a b c [] bs (Consumes-kept a a b [] (Consumes-nil a) kept) p

-- after bytes were kept, what is put then is put from the start
pub kept_appends : (a b c : Option (List ℕ)) (bs : List ℕ) → Keeps a b → Appends b c bs → Appends a c bs
kept_appends a b c bs kept p = Appends-trans a b c [] bs (Appends-kept a a b [] (Appends-nil a) kept) p
