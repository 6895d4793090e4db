-- The parts of M' put end to end.
use Rattle.std.proofs.Common.{◌≡◌, ℕ, ◌%◌, ◌≤◌, List, [], ◌∷◌, ◌++◌, length, refl, arith}
use Rattle.std.proofs.lemmas.List.{append-nil}

-- the pre-hash form: the length of the context fits a byte
pub pre_hash_parts : (head ctx oid digest : List ℕ) → length ctx ≤ 255 → head ≡ 1 ∷ length ctx ∷ []
    → head ++ ctx ++ oid ++ digest ≡ 1 ∷ length ctx % 256 ∷ (ctx ++ oid ++ digest)
pre_hash_parts head ctx oid digest h e =
    let fits : length ctx % 256 ≡ length ctx = omega (arith, h) in
    rw (e, fits) refl

-- the pure form, as far as the message
pub pure_front : (head ctx : List ℕ) → length ctx ≤ 255 → head ≡ 0 ∷ length ctx ∷ []
    → head ++ ctx ≡ 0 ∷ length ctx % 256 ∷ (ctx ++ [])
pure_front head ctx h e =
    let fits : length ctx % 256 ≡ length ctx = omega (arith, h) in
    rw (e, fits, append-nil ctx) refl
