-- Labels as they are put together.
use Rattle.std.proofs.Common.{◌≡◌, ℕ, ◌+◌, ◌/◌, ◌%◌, ◌<◌, ◌≤◌, List, [], ◌∷◌, ◌++◌, length, cond, Bool, true, false, refl, arith, ap, ◌∙◌, codes, append_assoc}
use Rattle.std.specs.Fmt.{decimal}
use Rattle.std.proofs.lemmas.Fmt.{decimal_digit, decimal_step}
use Rattle.slh_params.specs.declared.param_set.ParamSet.{ParamSet}
use Rattle.slh_params.specs.ParamSet.{is_standard, is, name, params, S128s, S128f, S192s, S192f, S256s, S256f}
use Rattle.slh_params.specs.Label.{label}

pub two_digits : (n : ℕ) → 10 ≤ n → n < 100 → decimal n ≡ (48 + n / 10) ∷ (48 + n % 10) ∷ []
two_digits n large small =
    decimal_step n large (omega arith) ∙ ap (λ (t : List ℕ). t ++ ((48 + n % 10) ∷ [])) (decimal_digit (n / 10) (omega arith))

-- a separator and a number, digit by digit
pub put_one : (x : List ℕ) (separator n : ℕ) → n < 10 → (x ++ separator ∷ []) ++ (48 + n % 10) ∷ [] ≡ x ++ separator ∷ decimal n
put_one x separator n small =
    let same : n % 10 ≡ n = omega arith in
    rw (same, decimal_digit n small) (append_assoc x (separator ∷ []) ((48 + n) ∷ []))

pub put_two : (x : List ℕ) (separator n : ℕ) → 10 ≤ n → n < 100
    → ((x ++ separator ∷ []) ++ (48 + n / 10) ∷ []) ++ (48 + n % 10) ∷ [] ≡ x ++ separator ∷ decimal n
put_two x separator n large small =
    rw (two_digits n large small, append_assoc (x ++ separator ∷ []) ((48 + n / 10) ∷ []) ((48 + n % 10) ∷ [])) (append_assoc x (separator ∷ []) _)

-- the names fit
pub length-name : (set : ParamSet) → length (name set) ≤ 17
unfolding name
length-name set = six (is set S128s) (is set S128f) (is set S192s) (is set S192f) (is set S256s) (is set S256f)
  where
    six : (a b c d e f : Bool) → length (cond a (codes "SLH-DSA-SHA2-128s") (cond b (codes "SLH-DSA-SHA2-128f") (cond c (codes "SLH-DSA-SHA2-192s")
        (cond d (codes "SLH-DSA-SHA2-192f") (cond e (codes "SLH-DSA-SHA2-256s") (cond f (codes "SLH-DSA-SHA2-256f") (codes "custom"))))))) ≤ 17
    six true b c d e f = omega arith
    six false true c d e f = omega arith
    six false false true d e f = omega arith
    six false false false true e f = omega arith
    six false false false false true f = omega arith
    six false false false false false true = omega arith
    six false false false false false false = omega arith

pub label_standard : (set : ParamSet) → is_standard set ≡ true → label set ≡ name set
unfolding label
label_standard set e = rw e refl

-- the texts as they are put together, and as the label has them
joined : (n l h d a k : List ℕ)
    → (((((codes "custom" ++ 58 ∷ n) ++ 44 ∷ l) ++ 44 ∷ h) ++ 44 ∷ d) ++ 44 ∷ a) ++ 44 ∷ k
    ≡ codes "custom:" ++ (n ++ 44 ∷ [] ++ l ++ 44 ∷ [] ++ h ++ 44 ∷ [] ++ d ++ 44 ∷ [] ++ a ++ 44 ∷ [] ++ k)
joined n l h d a k = simp append_assoc

pub label_custom : (set : ParamSet) → is_standard set ≡ false
    → (((((codes "custom" ++ 58 ∷ decimal set.n) ++ 44 ∷ decimal set.lg_w) ++ 44 ∷ decimal set.hp) ++ 44 ∷ decimal set.d) ++ 44 ∷ decimal set.a)
    ++ 44 ∷ decimal set.k ≡ label set
unfolding label params
label_custom set other = rw other (joined _ _ _ _ _ _)
