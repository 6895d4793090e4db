-- What is read of a member is in the grammar.
use Rattle.std.proofs.Common.{◌≡◌, ◌==◌, ℕ, Bool, true, false, cond, List, length, Option, Some, None, Result, Ok, Err, refl, sym, ap, subst, ◌∙◌, codes, ◌⊎◌, inl, inr, option_map}
use Rattle.std.proofs.lemmas.Bool.{eqb-true}
use Rattle.std.proofs.lemmas.Slice.Eq.{bytes_eq-Decides}
use Rattle.std.specs.Str.{bytes_eq}
use Rattle.slh_core.proofs.Names.{function_named_is}
use Rattle.slh_core.specs.PreHash as pre_hash
use Rattle.slh_core.specs.declared.pre_hash.PreHash.{PreHash}
use Rattle.slh_params.proofs.Names.{set_named_is, set_named-standard}
use Rattle.slh_params.specs.ParamSet.{set_named}
use Rattle.slh_params.specs.declared.param_set.ParamSet.{ParamSet}
use Rattle.slh_vectors.specs.Names.{form_name, form_named, pre_hashed, kind_name, kind_named}
use Rattle.slh_vectors.specs.declared.test.Kind.{Kind}
use Rattle.slh_vectors.specs.declared.test.Kind.TheVariants as kinds
use Rattle.slh_vectors.specs.declared.test.Interface.{Interface}
use Rattle.slh_vectors.specs.declared.test.Interface.TheVariants.{Internal, External}
use Rattle.slh_core.specs.declared.form.Form.TheVariants as forms
use Rattle.slh_vectors.specs.declared.fault.Member.TheVariants as members
use Rattle.hex.specs.Hex.{decode_of}
use Rattle.hex.specs.declared.error.FromHexError.{FromHexError}
use Rattle.serde_json.specs.Data.{Data, null, boolean, number, string, array, object}
use Rattle.serde_json.specs.Find.{get, as_str, as_bool}
use Rattle.slh_vectors.specs.Cases.{InputCase}
use Rattle.slh_vectors.specs.Reading.{◌>>=◌, or_fault, decoded, member_name, member_in, text_in, bool_in, hex_in, bytes_in, kind_in, set_in, form_in, context_in, input_in}
use Rattle.slh_vectors.specs.Grammar.{HasText, HasHex, HasBytes, HasSet, HasContext, HasInput}
use Rattle.slh_vectors.specs.declared.fault.Member.{Member}
use Rattle.slh_vectors.specs.declared.fault.VectorFault.{VectorFault}
use Rattle.slh_vectors.specs.declared.fault.VectorFault.TheVariants.{Missing, Bad}

-- the value of a step that did not fail
pub bind_ok : {A B : Type 0} (r : Result A VectorFault) (f : A → Result B VectorFault) (y : B) → (r >>= f) ≡ Ok y → (x : A) × (r ≡ Ok x) × (f x ≡ Ok y)
bind_ok (Ok x) f y e = (x, refl, e)
bind_ok (Err d) f y e = absurd cc

pub some_from : {A : Type 0} (o : Option A) (f : VectorFault) (x : A) → or_fault o f ≡ Ok x → o ≡ Some x
some_from (Some y) f x e = cc
some_from None f x e = absurd cc

string_from : (d : Data) (s : List ℕ) → as_str d ≡ Some s → d ≡ string s
string_from (string t) s e = cc
string_from null s e = absurd cc
string_from (boolean b) s e = absurd cc
string_from (number n) s e = absurd cc
string_from (array ds) s e = absurd cc
string_from (object ms) s e = absurd cc

decoded_from : (n : ℕ) (m : Member) (r : Result (List ℕ) FromHexError) (bytes : List ℕ) → decoded n m r ≡ Ok bytes → r ≡ Ok bytes
decoded_from n m (Ok x) bytes e = cc
decoded_from n m (Err f) bytes e = absurd cc

pub guard_ok : {A : Type 0} (b : Bool) (d : VectorFault) (x y : A) → cond b (Ok x) (Err d) ≡ Ok y → (b ≡ true) × (x ≡ y)
guard_ok true d x y e = (refl, cc)
guard_ok false d x y e = absurd cc

pub text_found : (n : ℕ) (m : Member) (d : Data) (s : List ℕ) → text_in n m d ≡ Ok s → HasText d (member_name m) s
text_found n m d s e =
    let a = bind_ok (member_in n m d) (λ v. or_fault (as_str v) (Bad n m)) s e in
    some_from (get (member_name m) d) (Missing n m) a.0 a.1 ∙ ap (λ (v : Data). Some v) (string_from a.0 s (some_from (as_str a.0) (Bad n m) s a.2))

pub text_again : (n : ℕ) (m : Member) (d : Data) (s : List ℕ) → HasText d (member_name m) s → text_in n m d ≡ Ok s
text_again n m d s h = rw h refl

pub hex_found : (n : ℕ) (m : Member) (d : Data) (bytes : List ℕ) → hex_in n m d ≡ Ok bytes → HasHex d (member_name m) bytes
unfolding hex_in
hex_found n m d bytes e =
    let a = bind_ok (text_in n m d) (λ s. decoded n m (decode_of s)) bytes e in
    record { digits = a.0; text = text_found n m d a.0 a.1; spells = decoded_from n m (decode_of a.0) bytes a.2 }

pub hex_again : (n : ℕ) (m : Member) (d : Data) (bytes : List ℕ) → HasHex d (member_name m) bytes → hex_in n m d ≡ Ok bytes
unfolding hex_in
hex_again n m d bytes h = rw (text_again n m d h.digits h.text, h.spells) refl

pub bytes_found : (n : ℕ) (m : Member) (len : ℕ) (d : Data) (bytes : List ℕ) → bytes_in n m len d ≡ Ok bytes → HasBytes d (member_name m) len bytes
unfolding bytes_in
bytes_found n m len d bytes e =
    let a = bind_ok (hex_in n m d) (λ b. cond (length b == len) (Ok b) (Err (Bad n m))) bytes e in
    let g = guard_ok (length a.0 == len) (Bad n m) a.0 bytes a.2 in
    let whole : HasBytes d (member_name m) len a.0 = record { hex = hex_found n m d a.0 a.1; sized = eqb-true _ _ g.0 } in
    subst (λ (b : List ℕ). HasBytes d (member_name m) len b) g.1 whole

-- ---- names

-- the first name of a chain, or one of the others
picked : {A : Type 0} (s name : List ℕ) (x y : A) (rest : Option A) → cond (bytes_eq s name) (Some x) rest ≡ Some y → ((s ≡ name) × (x ≡ y)) ⊎ (rest ≡ Some y)
picked s name x y rest e = both (bytes_eq s name) refl e
  where
    both : (b : Bool) → bytes_eq s name ≡ b → cond b (Some x) rest ≡ Some y → ((s ≡ name) × (x ≡ y)) ⊎ (rest ≡ Some y)
    both true is h = inl ((bytes_eq-Decides s name).0 is, cc)
    both false is h = inr h

pub kind_named_is : (s : List ℕ) (k : Kind) → kind_named s ≡ Some k → s ≡ kind_name k
kind_named_is s k e =
    elim (picked s (kind_name kinds.Keygen) kinds.Keygen k _ e) [
      | inl a ↦ rw (← a.1) a.0
      | inr a ↦ elim (picked s (kind_name kinds.Sign) kinds.Sign k _ a) [
        | inl b ↦ rw (← b.1) b.0
        | inr b ↦ elim (picked s (kind_name kinds.Verify) kinds.Verify k None b) [
          | inl c ↦ rw (← c.1) c.0
          | inr c ↦ absurd cc
        ]
      ]
    ]

pub set_found : (n : ℕ) (d : Data) (set : ParamSet) → set_in n d ≡ Ok set → HasSet d set
unfolding set_in
set_found n d set e =
    let a = bind_ok (text_in n members.Set d) (λ s. or_fault (set_named s) (Bad n members.Set)) set e in
    let named : set_named a.0 ≡ Some set = some_from (set_named a.0) (Bad n members.Set) set a.2 in
    (set_named-standard a.0 set named, rw (set_named_is a.0 set named) (text_found n members.Set d a.0 a.1))

pub kind_found : (n : ℕ) (d : Data) (k : Kind) → kind_in n d ≡ Ok k → HasText d (codes "kind") (kind_name k)
unfolding kind_in
kind_found n d k e =
    let a = bind_ok (text_in n members.Kind d) (λ s. or_fault (kind_named s) (Bad n members.Kind)) k e in
    rw (← kind_named_is a.0 k (some_from (kind_named a.0) (Bad n members.Kind) k a.2)) (text_found n members.Kind d a.0 a.1)

prehash_form : (o : Option PreHash) (s : List ℕ) (f : Interface) → ((p : PreHash) → o ≡ Some p → pre_hash.name p ≡ s) → option_map pre_hashed o ≡ Some f → s ≡ form_name f
prehash_form (Some p) s f h e =
    let same : External (forms.PreHash p) ≡ f = cc in
    rw (← same) (sym (h p refl))
prehash_form None s f h e = absurd cc

form_named_is : (s : List ℕ) (f : Interface) → form_named s ≡ Some f → s ≡ form_name f
form_named_is s f e =
    elim (picked s (codes "internal") Internal f _ e) [
      | inl a ↦ rw (← a.1) a.0
      | inr a ↦ elim (picked s (codes "pure") (External forms.Pure) f _ a) [
        | inl b ↦ rw (← b.1) b.0
        | inr b ↦ prehash_form (pre_hash.function_named s) s f (function_named_is s) b
      ]
    ]

form_found : (n : ℕ) (d : Data) (f : Interface) → form_in n d ≡ Ok f → HasText d (codes "form") (form_name f)
unfolding form_in
form_found n d f e =
    let a = bind_ok (text_in n members.Form d) (λ s. or_fault (form_named s) (Bad n members.Form)) f e in
    rw (← form_named_is a.0 f (some_from (form_named a.0) (Bad n members.Form) f a.2)) (text_found n members.Form d a.0 a.1)

context_found : (n : ℕ) (f : Interface) (d : Data) (bytes : List ℕ) → context_in n f d ≡ Ok bytes → HasContext d f bytes
unfolding context_in
context_found n Internal d bytes e = cc
context_found n (External form) d bytes e = hex_found n members.Context d bytes e

pub ok_is : {A : Type 0} (x y : A) → (let r : Result A VectorFault = Ok x in r) ≡ Ok y → x ≡ y
ok_is x y e = cc

pub input_found : (n : ℕ) (d : Data) (i : InputCase) → input_in n d ≡ Ok i → HasInput d i
unfolding input_in
input_found n d i e =
    let a = bind_ok (form_in n d) _ i e in
    let b = bind_ok (hex_in n members.Message d) _ i a.2 in
    let c = bind_ok (context_in n a.0 d) _ i b.2 in
    let made : InputCase = record { form = a.0; message = b.0; context = c.0 } in
    let whole : HasInput d made = record { form = form_found n d a.0 a.1; message = hex_found n members.Message d b.0 b.1; context = context_found n a.0 d c.0 c.1 } in
    subst (λ (x : InputCase). HasInput d x) (ok_is made i c.2) whole

bool_from : (d : Data) (b : Bool) → as_bool d ≡ Some b → d ≡ boolean b
bool_from (boolean t) b e = cc
bool_from null b e = absurd cc
bool_from (string s) b e = absurd cc
bool_from (number n) b e = absurd cc
bool_from (array ds) b e = absurd cc
bool_from (object ms) b e = absurd cc

pub bool_found : (n : ℕ) (m : Member) (d : Data) (b : Bool) → bool_in n m d ≡ Ok b → get (member_name m) d ≡ Some (boolean b)
bool_found n m d b e =
    let a = bind_ok (member_in n m d) (λ v. or_fault (as_bool v) (Bad n m)) b e in
    some_from (get (member_name m) d) (Missing n m) a.0 a.1 ∙ ap (λ (v : Data). Some v) (bool_from a.0 b (some_from (as_bool a.0) (Bad n m) b a.2))
