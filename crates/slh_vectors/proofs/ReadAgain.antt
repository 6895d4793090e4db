-- What is in the grammar is read.
use Rattle.std.proofs.Common.{◌≡◌, ◌≢◌, ◌+◌, ◌*◌, ◌==◌, ◌||◌, ℕ, Bool, true, false, List, [], ◌∷◌, length, Option, Some, Ok, refl, ap, ◌∙◌, codes, option_map, eq-eqb, arith}
use Rattle.std.specs.Str.{is_utf8}
use Rattle.std.proofs.lemmas.Str.{is_utf8-from_IsUtf8}
use Rattle.slh_core.proofs.Names.{function_named-name}
use Rattle.slh_core.specs.PreHash as pre_hash
use Rattle.slh_core.specs.declared.pre_hash.PreHash.{PreHash}
use Rattle.slh_core.specs.declared.pre_hash.PreHash.TheVariants.{Sha224, Sha256, Sha384, Sha512, Sha512_224, Sha512_256}
use Rattle.slh_params.proofs.Names.{set_named-name}
use Rattle.slh_params.specs.ParamSet as param_set
use Rattle.slh_params.specs.ParamSet.{params}
use Rattle.slh_params.specs.declared.param_set.ParamSet.{ParamSet}
use Rattle.slh_vectors.specs.Names.{form_name, form_named, pre_hashed, kind_name}
use Rattle.slh_vectors.specs.declared.test.Kind.{Kind}
use Rattle.slh_vectors.specs.declared.test.Kind.TheVariants as kinds
use Rattle.slh_vectors.specs.declared.test.Interface.{Interface}
use Rattle.slh_vectors.specs.declared.test.Interface.TheVariants.{Internal, External}
use Rattle.slh_core.specs.declared.form.Form.TheVariants as forms
use Rattle.slh_vectors.specs.declared.fault.Member.TheVariants as members
use Rattle.serde_json.specs.Data.{Data, boolean, Items, no_items, item}
use Rattle.serde_json.specs.Find.{get}
use Rattle.slh_vectors.specs.Cases.{InputCase, KeygenCase, SignCase, VerifyCase, Case, keygen, sign, verify}
use Rattle.slh_vectors.specs.Reading.{or_fault, member_name, bool_in, bytes_in, kind_in, set_in, form_in, context_in, random_in, input_in, verify_in, seeds_in, keygen_in, sign_in, of_kind, test_in, tests_from, tests_in}
use Rattle.slh_vectors.specs.Grammar.{HasText, HasHex, HasBytes, HasSet, HasContext, HasInput, IsKeygen, IsSign, IsVerify, IsTest, AreTests, IsVectorFile}
use Rattle.slh_vectors.specs.declared.fault.Member.{Member}
use Rattle.slh_vectors.specs.declared.fault.VectorFault.TheVariants.{Bad}
use Rattle.slh_vectors.proofs.MemberLaws.{text_again, hex_again}

bytes_again : (n : ℕ) (m : Member) (len : ℕ) (d : Data) (bytes : List ℕ) → HasBytes d (member_name m) len bytes → bytes_in n m len d ≡ Ok bytes
unfolding bytes_in
bytes_again n m len d bytes h =
    let same : (length bytes == len) ≡ true = eq-eqb (length bytes) len h.sized in
    rw (hex_again n m d bytes h.hex, same) refl

set_again : (n : ℕ) (d : Data) (set : ParamSet) → HasSet d set → set_in n d ≡ Ok set
unfolding set_in
set_again n d set h = rw (text_again n members.Set d (param_set.name set) h.1, set_named-name set h.0) refl

kind_again : (n : ℕ) (d : Data) (k : Kind) → HasText d (codes "kind") (kind_name k) → kind_in n d ≡ Ok k
unfolding kind_in
kind_again n d kinds.Keygen h = rw (text_again n members.Kind d (kind_name kinds.Keygen) h) refl
kind_again n d kinds.Sign h = rw (text_again n members.Kind d (kind_name kinds.Sign) h) refl
kind_again n d kinds.Verify h = rw (text_again n members.Kind d (kind_name kinds.Verify) h) refl

-- the name of a pre-hash function is not another form's
form_of_function : (n : ℕ) (p : PreHash) → or_fault (form_named (pre_hash.name p)) (Bad n members.Form) ≡ Ok (External (forms.PreHash p))
form_of_function n Sha224 = ap (λ (o : Option PreHash). or_fault (option_map pre_hashed o) (Bad n members.Form)) (function_named-name Sha224)
form_of_function n Sha256 = ap (λ (o : Option PreHash). or_fault (option_map pre_hashed o) (Bad n members.Form)) (function_named-name Sha256)
form_of_function n Sha384 = ap (λ (o : Option PreHash). or_fault (option_map pre_hashed o) (Bad n members.Form)) (function_named-name Sha384)
form_of_function n Sha512 = ap (λ (o : Option PreHash). or_fault (option_map pre_hashed o) (Bad n members.Form)) (function_named-name Sha512)
form_of_function n Sha512_224 = ap (λ (o : Option PreHash). or_fault (option_map pre_hashed o) (Bad n members.Form)) (function_named-name Sha512_224)
form_of_function n Sha512_256 = ap (λ (o : Option PreHash). or_fault (option_map pre_hashed o) (Bad n members.Form)) (function_named-name Sha512_256)

form_again : (n : ℕ) (d : Data) (f : Interface) → HasText d (codes "form") (form_name f) → form_in n d ≡ Ok f
unfolding form_in
form_again n d Internal h = rw (text_again n members.Form d (codes "internal") h) refl
form_again n d (External forms.Pure) h = rw (text_again n members.Form d (codes "pure") h) refl
form_again n d (External (forms.PreHash p)) h = rw (text_again n members.Form d (pre_hash.name p) h) (form_of_function n p)

context_again : (n : ℕ) (f : Interface) (d : Data) (bytes : List ℕ) → HasContext d f bytes → context_in n f d ≡ Ok bytes
unfolding context_in
context_again n Internal d bytes h = rw h refl
context_again n (External form) d bytes h = hex_again n members.Context d bytes h

input_again : (n : ℕ) (d : Data) (i : InputCase) → HasInput d i → input_in n d ≡ Ok i
unfolding input_in
input_again n d i h = rw (form_again n d i.form h.form, hex_again n members.Message d i.message h.message, context_again n i.form d i.context h.context) refl

bool_again : (n : ℕ) (m : Member) (d : Data) (b : Bool) → get (member_name m) d ≡ Some (boolean b) → bool_in n m d ≡ Ok b
bool_again n m d b h = rw h refl

verify_again : (n : ℕ) (d : Data) (t : VerifyCase) → IsVerify d t → verify_in n t.set d ≡ Ok t
unfolding verify_in
verify_again n d t h =
    rw (bytes_again n members.Pk (2 * (params t.set).n) d t.pk h.pk, input_again n d t.input h.input, hex_again n members.Signature d t.signature h.signature, bool_again n members.Valid d t.valid h.valid) refl

or_true : (a : Bool) → (a || true) ≡ true
or_true true = refl
or_true false = refl

or_sized : (b : List ℕ) (len : ℕ) → (length b ≢ 0 → length b ≡ len) → (length b == 0 || length b == len) ≡ true
or_sized [] len h = refl
or_sized (x ∷ b) len h =
    let same : (length (x ∷ b) == len) ≡ true = eq-eqb (length (x ∷ b)) len (h (λ e. absurd (omega arith))) in
    ap (λ (t : Bool). length (x ∷ b) == 0 || t) same ∙ or_true (length (x ∷ b) == 0)

random_again : (n : ℕ) (set : ParamSet) (d : Data) (bytes : List ℕ) → HasHex d (codes "random") bytes → (length bytes ≢ 0 → length bytes ≡ (params set).n) → random_in n set d ≡ Ok bytes
unfolding random_in
random_again n set d bytes h sized = rw (hex_again n members.Random d bytes h, or_sized bytes ((params set).n) sized) refl

sign_again : (n : ℕ) (d : Data) (t : SignCase) → IsSign d t → sign_in n t.set d ≡ Ok t
unfolding sign_in
sign_again n d t h =
    rw (bytes_again n members.Sk (4 * (params t.set).n) d t.sk h.sk, input_again n d t.input h.input, random_again n t.set d t.random h.random h.random_sized, hex_again n members.Signature d t.signature h.signature) refl

seeds_again : (n : ℕ) (d : Data) (t : KeygenCase) → IsKeygen d t → seeds_in n t.set d ≡ Ok t.seeds
unfolding seeds_in
seeds_again n d t h =
    rw (bytes_again n members.SkSeed ((params t.set).n) d t.seeds.sk_seed h.sk_seed, bytes_again n members.SkPrf ((params t.set).n) d t.seeds.sk_prf h.sk_prf, bytes_again n members.PkSeed ((params t.set).n) d t.seeds.pk_seed h.pk_seed) refl

keygen_again : (n : ℕ) (d : Data) (t : KeygenCase) → IsKeygen d t → keygen_in n t.set d ≡ Ok t
unfolding keygen_in
keygen_again n d t h =
    rw (seeds_again n d t h, bytes_again n members.Sk (4 * (params t.set).n) d t.sk h.sk, bytes_again n members.Pk (2 * (params t.set).n) d t.pk h.pk) refl

test_again : (n : ℕ) (d : Data) (c : Case) → IsTest d c → test_in n d ≡ Ok c
unfolding test_in of_kind
test_again n d (keygen t) h = rw (kind_again n d kinds.Keygen h.kind, set_again n d t.set h.set, keygen_again n d t h) refl
test_again n d (sign t) h = rw (kind_again n d kinds.Sign h.kind, set_again n d t.set h.set, sign_again n d t h) refl
test_again n d (verify t) h = rw (kind_again n d kinds.Verify h.kind, set_again n d t.set h.set, verify_again n d t h) refl

tests_again : (n : ℕ) (ds : Items) (cs : List Case) → AreTests ds cs → tests_from n ds ≡ Ok cs
unfolding tests_from
tests_again n no_items [] h = refl
tests_again n no_items (c ∷ cs) h = absurd h
tests_again n (item d ds) [] h = absurd h
tests_again n (item d ds) (c ∷ cs) h = rw (test_again n d c h.0, tests_again (n + 1) ds cs h.1) refl

pub file_again : (bytes : List ℕ) (cs : List Case) → IsVectorFile bytes cs → tests_in bytes ≡ Ok cs
unfolding tests_in
file_again bytes cs h =
    let utf8 : is_utf8 bytes ≡ true = is_utf8-from_IsUtf8 bytes h.utf8 in
    rw (utf8, h.json) (tests_again 1 h.items cs h.tests)
