-- A file in DER is read exactly if it is what is written of its key.
use Rattle.std.proofs.Common.{◌≡◌, ◌↔◌, ℕ, ◌+◌, ◌==◌, Bool, true, false, if◌then◌else◌, List, [], ◌∷◌, ◌++◌, length, take, drop, slice_index, Option, Some, None, refl, sym, ap, subst, ◌∙◌, length-append}
use Rattle.std.proofs.lemmas.Bool.{and_parts, eq-eqb, eqb-true}
use Rattle.std.proofs.lemmas.List.{drop_at, get_or-drop, take-append-drop, take_at}
use Rattle.std.proofs.lemmas.Slice.Eq.{bytes_eq-Decides}
use Rattle.std.specs.List.{find, list_all}
use Rattle.std.specs.Option.{option_and_then}
use Rattle.std.specs.Str.{bytes_eq}
use Rattle.hex.specs.Hex.{IsBytes}
use Rattle.slh_params.specs.ParamSet.{IsStandard, is, is_standard, params, sets}
use Rattle.slh_params.specs.declared.param_set.ParamSet.{ParamSet}
use Rattle.slh_core.specs.Keys.{Key}
use Rattle.slh_key_files.specs.KeyFile.{key_len}
use Rattle.slh_key_files.specs.Lines.{Text}
use Rattle.slh_key_files.specs.Pkix.{IsDer, IsWritten, arc, der_form, der_key, der_len, key_after, key_der, key_front, key_of, set_of_arc}
use Rattle.slh_key_files.specs.declared.key_file.AnyKey.{AnyKey}
use Rattle.slh_key_files.specs.declared.key_file.AnyKey.TheVariants as any
use Rattle.slh_key_files.specs.declared.key_kind.KeyKind.{KeyKind}
use Rattle.slh_key_files.specs.declared.key_kind.KeyKind.TheVariants.{Public, Secret}
use Rattle.slh_key_files.proofs.Forms.{der_front, form_is, front_fits, place}

and_then_some : {A B : Type 0} (o : Option A) (f : A → Option B) (y : B) → option_and_then f o ≡ Some y → (x : A) × (o ≡ Some x) × (f x ≡ Some y)
and_then_some None f y h = absurd cc
and_then_some (Some x) f y h = (x, refl, h)

if_some : {A : Type 0} (b : Bool) (o : Option A) (y : A) → (if b then o else None) ≡ Some y → (b ≡ true) × (o ≡ Some y)
if_some true o y h = (refl, h)
if_some false o y h = absurd cc

-- what is found in a list passes what all its items pass
found_passes : (test : ParamSet → Bool) (items : List ParamSet) (set : ParamSet) → list_all is_standard items ≡ true → find test items ≡ Some set → is_standard set ≡ true
found_passes test [] set all h = absurd cc
found_passes test (first ∷ items) set all h =
    let parts = and_parts (is_standard first) (list_all is_standard items) all in
    here (test first) h parts.0 (found_passes test items set parts.1)
  where
    here : (b : Bool) → (if b then Some first else find test items) ≡ Some set → is_standard first ≡ true → (find test items ≡ Some set → is_standard set ≡ true) → is_standard set ≡ true
    here true e one rest = let same : first ≡ set = cc in subst (λ it. is_standard it ≡ true) same one
    here false e one rest = rest e

arc_standard : (number : ℕ) (set : ParamSet) → set_of_arc number ≡ Some set → IsStandard set
unfolding set_of_arc is_standard is
arc_standard number set h = found_passes (λ it. arc it == number) sets set refl h

bytes_after : (n : ℕ) (der : Text) → IsBytes der → IsBytes (drop n der)
bytes_after n der h i = rw (get_or-drop n der i 0) (h (n + i))

key_made : (kind : KeyKind) (set : ParamSet) (der bytes : Text) (key : AnyKey) → IsStandard set → IsBytes bytes → der ≡ key_front kind set ++ bytes
    → key_of kind set bytes ≡ Some key → IsDer der key
key_made Public set der bytes key standard are_bytes e h =
    let k : Key = record { set = set; bytes = bytes } in
    let d = if_some (length bytes == key_len Public (params set)) (Some (any.Public k)) key h in
    let len : length bytes ≡ key_len Public (params set) = eqb-true _ _ d.0 in
    let some : Some (any.Public k) ≡ Some key = d.1 in
    let same : any.Public k ≡ key = cc some in
    subst (IsDer der) same (record {
      standard = standard;
      is_key = record { sized = len; bytes = are_bytes };
      is_file = e ∙ sym (der_front Public set standard bytes len);
    })
key_made Secret set der bytes key standard are_bytes e h =
    let k : Key = record { set = set; bytes = bytes } in
    let d = if_some (length bytes == key_len Secret (params set)) (Some (any.Secret k)) key h in
    let len : length bytes ≡ key_len Secret (params set) = eqb-true _ _ d.0 in
    let some : Some (any.Secret k) ≡ Some key = d.1 in
    let same : any.Secret k ≡ key = cc some in
    subst (IsDer der) same (record {
      standard = standard;
      is_key = record { sized = len; bytes = are_bytes };
      is_file = e ∙ sym (der_front Secret set standard bytes len);
    })

-- from reading to what is written
der_read : (der : Text) (key : AnyKey) → IsBytes der → der_key der ≡ Some key → IsDer der key
der_read der key are_bytes h =
    let a = and_then_some (der_form (length der)) (λ form. option_and_then (λ set. key_after form.0 set der) (set_of_arc (slice_index der form.1))) key h in
    let kind : KeyKind = a.0.0 in
    let b = and_then_some (set_of_arc (slice_index der a.0.1)) (λ set. key_after kind set der) key a.2 in
    let set : ParamSet = b.0 in
    let n : ℕ = length (key_front kind set) in
    let c = if_some (bytes_eq (take n der) (key_front kind set)) (key_of kind set (drop n der)) key b.2 in
    let front : take n der ≡ key_front kind set = (bytes_eq-Decides (take n der) (key_front kind set)).0 c.0 in
    let whole : der ≡ key_front kind set ++ drop n der = sym (take-append-drop n der) ∙ ap (λ (t : Text). t ++ drop n der) front in
    key_made kind set der (drop n der) key (arc_standard _ set b.1) (bytes_after n der are_bytes) whole c.1

-- and back
der_given : (kind : KeyKind) (der : Text) (key : Key) → IsWritten key_der kind der key → der_key der ≡ key_of kind key.set key.bytes
der_given kind der key w =
    let f = form_is kind key.set w.standard in
    let front : Text = key_front kind key.set in
    let whole : der ≡ front ++ key.bytes = w.is_file ∙ der_front kind key.set w.standard key.bytes w.is_key.sized in
    let len : length der ≡ der_len kind (params key.set) =
    ap (λ (t : Text). length t) whole ∙ length-append front key.bytes ∙ ap (λ (n : ℕ). length front + n) w.is_key.sized ∙ front_fits kind key.set w.standard in
    let number : slice_index der (place kind key.set) ≡ arc key.set = ap (λ (t : Text). slice_index t (place kind key.set)) whole ∙ f.1 key.bytes in
    let here : take (length front) der ≡ front = ap (take (length front)) whole ∙ take_at front key.bytes (length front) refl in
    let rest : drop (length front) der ≡ key.bytes = ap (drop (length front)) whole ∙ drop_at front key.bytes (length front) refl in
    let same : bytes_eq (take (length front) der) front ≡ true = (bytes_eq-Decides (take (length front) der) front).1 here in
    let of_form = λ (o : Option (KeyKind × ℕ)). option_and_then (λ form. option_and_then (λ set. key_after form.0 set der) (set_of_arc (slice_index der form.1))) o in
    let of_set = λ (o : Option ParamSet). option_and_then (λ set. key_after kind set der) o in
    ap (λ (n : ℕ). of_form (der_form n)) len ∙ ap of_form f.0 ∙ ap (λ (n : ℕ). of_set (set_of_arc n)) number ∙ ap of_set f.2
    ∙ ap (λ (b : Bool). if b then key_of kind key.set (drop (length front) der) else None) same ∙ ap (key_of kind key.set) rest

pub der_written : (der : Text) (key : AnyKey) → IsDer der key → der_key der ≡ Some key
der_written der (any.Public key) w = der_given Public der key w ∙ rw (eq-eqb _ _ w.is_key.sized) refl
der_written der (any.Secret key) w = der_given Secret der key w ∙ rw (eq-eqb _ _ w.is_key.sized) refl

pub accepts_der : (der : Text) (r : Option AnyKey) → r ≡ der_key der → IsBytes der → (key : AnyKey) → (r ≡ Some key) ↔ IsDer der key
accepts_der der r e are_bytes key = (λ h. der_read der key are_bytes (sym e ∙ h), λ w. e ∙ der_written der key w)
