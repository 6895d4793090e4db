-- The twelve forms of a key in DER: what stands before its bytes, by its kind and its set.
use Rattle.std.proofs.Common.{◌≡◌, ℕ, ◌+◌, if◌then◌else◌, nat_lt, ◌++◌, length, slice_index, Some, refl, sym, ap, ◌∙◌, codes}
use Rattle.slh_params.specs.ParamSet.{IsStandard, is, name, params, set_named, S256f}
use Rattle.slh_params.specs.declared.param_set.ParamSet.{ParamSet}
use Rattle.slh_params.proofs.Names.{set_named-name, standard_cases}
use Rattle.slh_key_files.specs.declared.key_kind.KeyKind.{KeyKind}
use Rattle.slh_key_files.specs.declared.key_kind.KeyKind.TheVariants.{Public, Secret}
use Rattle.slh_key_files.specs.KeyFile.{key_len}
use Rattle.slh_key_files.specs.Lines.{Text}
use Rattle.slh_key_files.specs.Pkix.{arc, der_form, der_len, key_der, key_front, set_of_arc}

-- a set is the one whose name it has
pub of_name : (set other : ParamSet) (text : Text) → IsStandard set → name set ≡ text → set_named text ≡ Some other → set ≡ other
of_name set other text standard named found =
    let e : Some set ≡ Some other = sym (set_named-name set standard) ∙ ap set_named named ∙ found in
    cc e

-- the set that is left when five names are ruled out
pub last_set : (set : ParamSet) → IsStandard set
    → (name set ≡ codes "SLH-DSA-SHA2-128s" → ⊥) → (name set ≡ codes "SLH-DSA-SHA2-128f" → ⊥) → (name set ≡ codes "SLH-DSA-SHA2-192s" → ⊥)
    → (name set ≡ codes "SLH-DSA-SHA2-192f" → ⊥) → (name set ≡ codes "SLH-DSA-SHA2-256s" → ⊥) → set ≡ S256f
unfolding name is
last_set = standard_cases
    (λ set. (name set ≡ codes "SLH-DSA-SHA2-128s" → ⊥) → (name set ≡ codes "SLH-DSA-SHA2-128f" → ⊥) → (name set ≡ codes "SLH-DSA-SHA2-192s" → ⊥)
    → (name set ≡ codes "SLH-DSA-SHA2-192f" → ⊥) → (name set ≡ codes "SLH-DSA-SHA2-256s" → ⊥) → set ≡ S256f)
    (λ a b c d e. absurd (a refl)) (λ a b c d e. absurd (b refl)) (λ a b c d e. absurd (c refl)) (λ a b c d e. absurd (d refl))
    (λ a b c d e. absurd (e refl)) (λ a b c d e. refl)

abbrev IsFront : KeyKind → ParamSet → Type 0
IsFront kind set = (bytes : Text) → length bytes ≡ key_len kind (params set) → key_der kind (record { set = set; bytes = bytes }) ≡ key_front kind set ++ bytes

-- what stands before the bytes
pub der_front : (kind : KeyKind) (set : ParamSet) → IsStandard set → IsFront kind set
unfolding is params
der_front Public = standard_cases (IsFront Public) (λ bytes h. rw h (rw h refl)) (λ bytes h. rw h (rw h refl)) (λ bytes h. rw h (rw h refl))
    (λ bytes h. rw h (rw h refl)) (λ bytes h. rw h (rw h refl)) (λ bytes h. rw h (rw h refl))
der_front Secret = standard_cases (IsFront Secret) (λ bytes h. rw h (rw h refl)) (λ bytes h. rw h (rw h refl)) (λ bytes h. rw h (rw h refl))
    (λ bytes h. rw h (rw h refl)) (λ bytes h. rw h (rw h refl)) (λ bytes h. rw h (rw h refl))

abbrev FrontFits : KeyKind → ParamSet → Type 0
FrontFits kind set = length (key_front kind set) + key_len kind (params set) ≡ der_len kind (params set)

pub front_fits : (kind : KeyKind) (set : ParamSet) → IsStandard set → FrontFits kind set
unfolding is params
front_fits Public = standard_cases (FrontFits Public) refl refl refl refl refl refl
front_fits Secret = standard_cases (FrontFits Secret) refl refl refl refl refl refl

-- the place of the set's number, by the kind and the length
abbrev pub place : KeyKind → ParamSet → ℕ
place Public set = 14
place Secret set = if nat_lt (key_len Secret (params set)) 128 then 17 else 18

-- what the length and that number say of a file
abbrev FormIs : KeyKind → ParamSet → Type 0
FormIs kind set = (der_form (der_len kind (params set)) ≡ Some (kind, place kind set))
    × ((bytes : Text) → slice_index (key_front kind set ++ bytes) (place kind set) ≡ arc set) × (set_of_arc (arc set) ≡ Some set)

pub form_is : (kind : KeyKind) (set : ParamSet) → IsStandard set → FormIs kind set
unfolding is params set_of_arc
form_is Public = standard_cases (FormIs Public) (refl, λ bytes. refl, refl) (refl, λ bytes. refl, refl) (refl, λ bytes. refl, refl)
    (refl, λ bytes. refl, refl) (refl, λ bytes. refl, refl) (refl, λ bytes. refl, refl)
form_is Secret = standard_cases (FormIs Secret) (refl, λ bytes. refl, refl) (refl, λ bytes. refl, refl) (refl, λ bytes. refl, refl)
    (refl, λ bytes. refl, refl) (refl, λ bytes. refl, refl) (refl, λ bytes. refl, refl)
