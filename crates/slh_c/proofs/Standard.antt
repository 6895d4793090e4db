-- The standard's sets in key files: their names, their numbers, and the lengths of their keys.
use Rattle.std.proofs.Common.{◌≡◌, ℕ, zero, suc, ◌-◌, ◌==◌, ◌≤◌, Bool, true, false, if◌then◌else◌, List, [], ◌∷◌, length, Some, None, refl, sym, ap, subst, ◌∙◌, arith, codes}
use Rattle.std.specs.List.{slice_get, list_all}
use Rattle.std.proofs.lemmas.Bool.{and_parts}
use Rattle.slh_params.specs.Label.{label}
use Rattle.slh_params.specs.ParamSet.{IsStandard, is_standard, is, name, params, sets, set_named, S128s, S128f, S192s, S192f, S256s}
use Rattle.slh_params.specs.declared.param_set.ParamSet.{ParamSet}
use Rattle.slh_params.proofs.Bounds.{n_high}
use Rattle.slh_params.proofs.Names.{standard_cases, set_named-name}
use Rattle.slh_key_files.specs.KeyFile.{key_len}
use Rattle.slh_key_files.specs.declared.key_kind.KeyKind.{KeyKind}
use Rattle.slh_key_files.specs.declared.key_kind.KeyKind.TheVariants.{Public, Secret}
use Rattle.slh_c.specs.Numbers.{set_numbered}

-- a set has the number of the one whose name it has
by_name : (set other : ParamSet) (text : List ℕ) (number : ℕ) → IsStandard set → name set ≡ text
    → set_named text ≡ Some other → set_numbered number ≡ Some other → set_numbered number ≡ Some set
by_name set other text number standard named found numbered =
    numbered ∙ sym found ∙ ap set_named (sym named) ∙ set_named-name set standard

pub is_1 : (set : ParamSet) → IsStandard set → name set ≡ codes "SLH-DSA-SHA2-128s" → set_numbered 1 ≡ Some set
unfolding set_named name is set_numbered
is_1 set standard named = by_name set S128s _ 1 standard named refl refl

pub is_2 : (set : ParamSet) → IsStandard set → name set ≡ codes "SLH-DSA-SHA2-128f" → set_numbered 2 ≡ Some set
unfolding set_named name is set_numbered
is_2 set standard named = by_name set S128f _ 2 standard named refl refl

pub is_3 : (set : ParamSet) → IsStandard set → name set ≡ codes "SLH-DSA-SHA2-192s" → set_numbered 3 ≡ Some set
unfolding set_named name is set_numbered
is_3 set standard named = by_name set S192s _ 3 standard named refl refl

pub is_4 : (set : ParamSet) → IsStandard set → name set ≡ codes "SLH-DSA-SHA2-192f" → set_numbered 4 ≡ Some set
unfolding set_named name is set_numbered
is_4 set standard named = by_name set S192f _ 4 standard named refl refl

pub is_5 : (set : ParamSet) → IsStandard set → name set ≡ codes "SLH-DSA-SHA2-256s" → set_numbered 5 ≡ Some set
unfolding set_named name is set_numbered
is_5 set standard named = by_name set S256s _ 5 standard named refl refl

-- the set that is left
pub is_6 : (set : ParamSet) → IsStandard set
    → (name set ≡ codes "SLH-DSA-SHA2-128s" → ⊥) → (name set ≡ codes "SLH-DSA-SHA2-128f" → ⊥) → (name set ≡ codes "SLH-DSA-SHA2-192s" → ⊥)
    → (name set ≡ codes "SLH-DSA-SHA2-192f" → ⊥) → (name set ≡ codes "SLH-DSA-SHA2-256s" → ⊥) → set_numbered 6 ≡ Some set
unfolding name is set_numbered
is_6 = standard_cases
    (λ set. (name set ≡ codes "SLH-DSA-SHA2-128s" → ⊥) → (name set ≡ codes "SLH-DSA-SHA2-128f" → ⊥) → (name set ≡ codes "SLH-DSA-SHA2-192s" → ⊥)
    → (name set ≡ codes "SLH-DSA-SHA2-192f" → ⊥) → (name set ≡ codes "SLH-DSA-SHA2-256s" → ⊥) → set_numbered 6 ≡ Some set)
    (λ a b c d e. absurd (a refl)) (λ a b c d e. absurd (b refl)) (λ a b c d e. absurd (c refl)) (λ a b c d e. absurd (d refl))
    (λ a b c d e. absurd (e refl)) (λ a b c d e. refl)

pub name_len : (set : ParamSet) → IsStandard set → length (name set) ≡ 17
unfolding name is
name_len = standard_cases (λ set. length (name set) ≡ 17) refl refl refl refl refl refl

pub name_label : (set : ParamSet) → IsStandard set → name set ≡ label set
unfolding name is label is_standard
name_label = standard_cases (λ set. name set ≡ label set) refl refl refl refl refl refl

-- an item of a list, all of which pass a test
at : {A : Type 0} (test : A → Bool) (items : List A) (place : ℕ) (item : A) → list_all test items ≡ true
    → slice_get items place ≡ Some item → test item ≡ true
at test [] place item all found = absurd cc
at test (first ∷ items) zero item all found =
    let same : first ≡ item = cc in
    subst (λ it. test it ≡ true) same (and_parts (test first) (list_all test items) all).0
at test (first ∷ items) (suc place) item all found = at test items place item (and_parts (test first) (list_all test items) all).1 found

-- the set of a number is one of the standard's
pub numbered_standard : (number : ℕ) (set : ParamSet) → set_numbered number ≡ Some set → is_standard set ≡ true
unfolding set_numbered is_standard is
numbered_standard number set found = from (number == 0) found
  where
    from : (first : Bool) → (if first then None else slice_get sets (number - 1)) ≡ Some set → is_standard set ≡ true
    from true found = absurd cc
    from false found = at is_standard sets (number - 1) set refl found

-- a key has at most 128 bytes
pub key_len_high : (kind : KeyKind) (set : ParamSet) → key_len kind (params set) ≤ 128
key_len_high Public set = omega (arith, n_high set)
key_len_high Secret set = omega (arith, n_high set)
