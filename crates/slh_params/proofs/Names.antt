-- What names stand for.
use Rattle.std.proofs.Common.{◌≡◌, ℕ, Bool, ◌||◌, IsTrue, codes, true, false, not, cond, List, [], ◌∷◌, Some, None, refl, sym, ap, ◌∙◌, arith}
use Rattle.std.proofs.Math.Path.{subst}
use Rattle.slh_params.proofs.Same.{is-same}
use Rattle.std.proofs.lemmas.Slice.Eq.{bytes_eq-Decides}
use Rattle.std.specs.Bool.{Decides}
use Rattle.std.specs.List.{find}
use Rattle.std.specs.Str.{bytes_eq}
use Rattle.slh_params.specs.ParamSet.{IsStandard, is_standard, is, name, set_named, sets, S128s, S128f, S192s, S192f, S256s, S256f}
use Rattle.slh_params.specs.declared.param_set.ParamSet.{ParamSet}

-- a test of a fact that does not hold
false_of : (b : Bool) (P : Type 0) → Decides b P → (P → ⊥) → b ≡ false
false_of true P d other = absurd (other (d.0 refl))
false_of false P d other = refl

-- nothing is found by a text that is the name of nothing
pub none_found : {A : Type 0} (name_of : A → List ℕ) (text : List ℕ) → ((x : A) → name_of x ≡ text → ⊥) → (xs : List A) → find (λ x. bytes_eq (name_of x) text) xs ≡ None
none_found name_of text other [] = refl
none_found name_of text other (x ∷ xs) = rw (false_of (bytes_eq (name_of x) text) (name_of x ≡ text) (bytes_eq-Decides (name_of x) text) (other x)) (none_found name_of text other xs)

-- what is found has the name
pub found_named : {A : Type 0} (name_of : A → List ℕ) (text : List ℕ) (y : A) (xs : List A) → find (λ x. bytes_eq (name_of x) text) xs ≡ Some y → name_of y ≡ text
found_named name_of text y [] e = absurd cc
found_named name_of text y (x ∷ xs) e = both (bytes_eq (name_of x) text) refl e (found_named name_of text y xs)
  where
    both : (b : Bool) → bytes_eq (name_of x) text ≡ b → cond b (Some x) (find (λ x. bytes_eq (name_of x) text) xs) ≡ Some y
        → (find (λ x. bytes_eq (name_of x) text) xs ≡ Some y → name_of y ≡ text) → name_of y ≡ text
    both true is h later =
        let same : x ≡ y = cc in
        ap name_of (sym same) ∙ (bytes_eq-Decides (name_of x) text).0 is
    both false is h later = later h

-- what holds of the six sets holds of each of the standard's
pub standard_cases : (P : ParamSet → Type 0) → P S128s → P S128f → P S192s → P S192f → P S256s → P S256f → (set : ParamSet) → IsStandard set → P set
unfolding is_standard
standard_cases P a b c d e f set h = five (is set S128s || is set S128f || is set S192s || is set S192f || is set S256s) (is set S256f) h
  where
    at : (t : ParamSet) → P t → IsTrue (is set t) → P set
    at t p e = subst P (sym (is-same set t e)) p

    one : (x y : Bool) → (IsTrue x → P set) → (IsTrue y → P set) → IsTrue (x || y) → P set
    one true y f g h = f refl
    one false y f g h = g h

    two : IsTrue (is set S128s || is set S128f) → P set
    two = one _ _ (at S128s a) (at S128f b)

    three : IsTrue (is set S128s || is set S128f || is set S192s) → P set
    three = one _ _ two (at S192s c)

    four : IsTrue (is set S128s || is set S128f || is set S192s || is set S192f) → P set
    four = one _ _ three (at S192f d)

    most : IsTrue (is set S128s || is set S128f || is set S192s || is set S192f || is set S256s) → P set
    most = one _ _ four (at S256s e)

    five : (x y : Bool) → IsTrue (is set S128s || is set S128f || is set S192s || is set S192f || is set S256s || is set S256f) → P set
    five x y = one _ _ most (at S256f f)

-- each set of the standard is found by its name
pub set_named-name : (set : ParamSet) → IsStandard set → set_named (name set) ≡ Some set
unfolding set_named name is
set_named-name = standard_cases (λ set. set_named (name set) ≡ Some set) refl refl refl refl refl refl

-- a text that none of the six has as its name
pub standard-named : (text : List ℕ) (set : ParamSet) → IsStandard set → name set ≡ text
    → (text ≡ codes "SLH-DSA-SHA2-128s" → ⊥) → (text ≡ codes "SLH-DSA-SHA2-128f" → ⊥) → (text ≡ codes "SLH-DSA-SHA2-192s" → ⊥)
    → (text ≡ codes "SLH-DSA-SHA2-192f" → ⊥) → (text ≡ codes "SLH-DSA-SHA2-256s" → ⊥) → (text ≡ codes "SLH-DSA-SHA2-256f" → ⊥) → ⊥
unfolding name is
standard-named text set standard e a b c d f g =
    standard_cases (λ set. name set ≡ text → ⊥) (λ e. a (sym e)) (λ e. b (sym e)) (λ e. c (sym e)) (λ e. d (sym e)) (λ e. f (sym e)) (λ e. g (sym e)) set standard e

-- a set that is found has the name
pub set_named_is : (text : List ℕ) (set : ParamSet) → set_named text ≡ Some set → name set ≡ text
unfolding set_named
set_named_is text set e = found_named name text set sets e

-- a set that is found is one of the standard's
pub set_named-standard : (text : List ℕ) (set : ParamSet) → set_named text ≡ Some set → IsStandard set
unfolding set_named is_standard is
set_named-standard text set e =
    six (bytes_eq (name S128s) text) (bytes_eq (name S128f) text) (bytes_eq (name S192s) text) (bytes_eq (name S192f) text) (bytes_eq (name S256s) text) (bytes_eq (name S256f) text) e
  where
    of : (t : ParamSet) → IsStandard t → Some t ≡ Some set → IsStandard set
    of t standard found = let same : t ≡ set = cc in subst IsStandard same standard

    six : (a b c d e f : Bool) → cond a (Some S128s) (cond b (Some S128f) (cond c (Some S192s) (cond d (Some S192f) (cond e (Some S256s) (cond f (Some S256f) None))))) ≡ Some set → IsStandard set
    six true b c d e f found = of S128s refl found
    six false true c d e f found = of S128f refl found
    six false false true d e f found = of S192s refl found
    six false false false true e f found = of S192f refl found
    six false false false false true f found = of S256s refl found
    six false false false false false true found = of S256f refl found
    six false false false false false false found = absurd cc

-- no set is found by a text that is the name of none of the standard's
pub set_named-none : (text : List ℕ) → ((set : ParamSet) → IsStandard set → name set ≡ text → ⊥) → set_named text ≡ None
unfolding set_named is_standard is
set_named-none text other = rw (no S128s refl, no S128f refl, no S192s refl, no S192f refl, no S256s refl, no S256f refl) refl
  where
    no : (set : ParamSet) → IsStandard set → bytes_eq (name set) text ≡ false
    no set standard = false_of (bytes_eq (name set) text) (name set ≡ text) (bytes_eq-Decides (name set) text) (other set standard)

-- the names tell the standard's sets from others
pub named_standard : (set : ParamSet) → not (bytes_eq (name set) (codes "custom")) ≡ is_standard set
unfolding name is_standard
named_standard set = six (is set S128s) (is set S128f) (is set S192s) (is set S192f) (is set S256s) (is set S256f)
  where
    six : (a b c d e f : Bool) → not (bytes_eq (cond a (codes "SLH-DSA-SHA2-128s") (cond b (codes "SLH-DSA-SHA2-128f") (cond c (codes "SLH-DSA-SHA2-192s")
        (cond d (codes "SLH-DSA-SHA2-192f") (cond e (codes "SLH-DSA-SHA2-256s") (cond f (codes "SLH-DSA-SHA2-256f") (codes "custom"))))))) (codes "custom"))
        ≡ (a || b || c || d || e || f)
    six true b c d e f = grind arith
    six false true c d e f = grind arith
    six false false true d e f = grind arith
    six false false false true e f = grind arith
    six false false false false true f = refl
    six false false false false false true = refl
    six false false false false false false = refl
