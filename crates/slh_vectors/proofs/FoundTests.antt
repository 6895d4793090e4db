-- What is read of a file is in the grammar.
use Rattle.std.proofs.Common.{◌≡◌, ◌≢◌, ◌+◌, ◌*◌, ◌==◌, ◌||◌, ℕ, Bool, true, false, cond, List, [], ◌∷◌, length, Some, None, Result, Ok, Err, refl, ap, subst, ◌∙◌, codes, Vec, Global, arith}
use Rattle.std.specs.Prelude.{IfOk}
use Rattle.std.specs.Str.{IsUtf8, is_utf8}
use Rattle.std.proofs.lemmas.Str.{IsUtf8-from_is_utf8}
use Rattle.serde_json.specs.Read.{read}
use Rattle.slh_vectors.specs.declared.test.Test.{Test}
use Rattle.slh_params.specs.ParamSet.{params}
use Rattle.slh_params.specs.declared.param_set.ParamSet.{ParamSet}
use Rattle.slh_vectors.specs.Names.{kind_name}
use Rattle.slh_vectors.specs.declared.test.Kind.{Kind}
use Rattle.slh_vectors.specs.declared.test.Kind.TheVariants as kinds
use Rattle.slh_vectors.specs.declared.fault.Member.TheVariants as members
use Rattle.serde_json.specs.Data.{Data, null, boolean, number, string, array, object, Items, no_items, item}
use Rattle.serde_json.specs.Find.{as_array}
use Rattle.slh_vectors.specs.Cases.{SeedsCase, KeygenCase, SignCase, VerifyCase, Case, keygen, sign, verify, views}
use Rattle.slh_vectors.specs.Reading.{◌>>=◌, Gives, or_fault, bool_in, hex_in, bytes_in, kind_in, set_in, random_in, input_in, verify_in, seeds_in, keygen_in, sign_in, of_kind, test_in, tests_from, tests_in, json_of}
use Rattle.slh_vectors.specs.Grammar.{HasText, HasHex, HasBytes, HasSet, IsKeygen, IsSign, IsVerify, IsTest, AreTests, IsVectorFile}
use Rattle.slh_vectors.specs.declared.fault.VectorFault.{VectorFault}
use Rattle.slh_vectors.specs.declared.fault.VectorFault.TheVariants.{NotJson, NotAList, Bad}
use Rattle.slh_vectors.proofs.MemberLaws.{bind_ok, some_from, guard_ok, ok_is, hex_found, bytes_found, set_found, kind_found, input_found, bool_found}

verify_found : (n : ℕ) (set : ParamSet) (d : Data) (t : VerifyCase) → HasText d (codes "kind") (codes "verify") → HasSet d set → verify_in n set d ≡ Ok t → IsVerify d t
unfolding verify_in
verify_found n set d t kind name e =
    let a = bind_ok (bytes_in n members.Pk (2 * (params set).n) d) _ t e in
    let b = bind_ok (input_in n d) _ t a.2 in
    let c = bind_ok (hex_in n members.Signature d) _ t b.2 in
    let v = bind_ok (bool_in n members.Valid d) _ t c.2 in
    let made : VerifyCase = record { set = set; pk = a.0; input = b.0; signature = c.0; valid = v.0 } in
    let whole : IsVerify d made = record {
      kind = kind;
      set = name;
      pk = bytes_found n members.Pk (2 * (params set).n) d a.0 a.1;
      input = input_found n d b.0 b.1;
      signature = hex_found n members.Signature d c.0 c.1;
      valid = bool_found n members.Valid d v.0 v.1;
    } in
    subst (λ (x : VerifyCase). IsVerify d x) (ok_is made t v.2) whole

sized_or : (b : List ℕ) (len : ℕ) → (length b == 0 || length b == len) ≡ true → length b ≢ 0 → length b ≡ len
sized_or b len e ne = grind (arith)

random_found : (n : ℕ) (set : ParamSet) (d : Data) (bytes : List ℕ) → random_in n set d ≡ Ok bytes → HasHex d (codes "random") bytes × (length bytes ≢ 0 → length bytes ≡ (params set).n)
unfolding random_in
random_found n set d bytes e =
    let a = bind_ok (hex_in n members.Random d) _ bytes e in
    let g = guard_ok (length a.0 == 0 || length a.0 == (params set).n) (Bad n members.Random) a.0 bytes a.2 in
    subst (λ (b : List ℕ). HasHex d (codes "random") b × (length b ≢ 0 → length b ≡ (params set).n)) g.1 (hex_found n members.Random d a.0 a.1, sized_or a.0 ((params set).n) g.0)

sign_found : (n : ℕ) (set : ParamSet) (d : Data) (t : SignCase) → HasText d (codes "kind") (codes "sign") → HasSet d set → sign_in n set d ≡ Ok t → IsSign d t
unfolding sign_in
sign_found n set d t kind name e =
    let a = bind_ok (bytes_in n members.Sk (4 * (params set).n) d) _ t e in
    let b = bind_ok (input_in n d) _ t a.2 in
    let c = bind_ok (random_in n set d) _ t b.2 in
    let v = bind_ok (hex_in n members.Signature d) _ t c.2 in
    let random = random_found n set d c.0 c.1 in
    let made : SignCase = record { set = set; sk = a.0; input = b.0; random = c.0; signature = v.0 } in
    let whole : IsSign d made = record {
      kind = kind;
      set = name;
      sk = bytes_found n members.Sk (4 * (params set).n) d a.0 a.1;
      input = input_found n d b.0 b.1;
      random = random.0;
      random_sized = random.1;
      signature = hex_found n members.Signature d v.0 v.1;
    } in
    subst (λ (x : SignCase). IsSign d x) (ok_is made t v.2) whole

record FoundSeeds (set : ParamSet) (d : Data) (s : SeedsCase) : Type 0 where
  sk_seed : HasBytes d (codes "skSeed") ((params set).n) s.sk_seed
  sk_prf : HasBytes d (codes "skPrf") ((params set).n) s.sk_prf
  pk_seed : HasBytes d (codes "pkSeed") ((params set).n) s.pk_seed

seeds_found : (n : ℕ) (set : ParamSet) (d : Data) (s : SeedsCase) → seeds_in n set d ≡ Ok s → FoundSeeds set d s
unfolding seeds_in
seeds_found n set d s e =
    let a = bind_ok (bytes_in n members.SkSeed ((params set).n) d) _ s e in
    let b = bind_ok (bytes_in n members.SkPrf ((params set).n) d) _ s a.2 in
    let c = bind_ok (bytes_in n members.PkSeed ((params set).n) d) _ s b.2 in
    let made : SeedsCase = record { sk_seed = a.0; sk_prf = b.0; pk_seed = c.0 } in
    let whole : FoundSeeds set d made = record {
      sk_seed = bytes_found n members.SkSeed ((params set).n) d a.0 a.1;
      sk_prf = bytes_found n members.SkPrf ((params set).n) d b.0 b.1;
      pk_seed = bytes_found n members.PkSeed ((params set).n) d c.0 c.1;
    } in
    subst (λ (x : SeedsCase). FoundSeeds set d x) (ok_is made s c.2) whole

keygen_found : (n : ℕ) (set : ParamSet) (d : Data) (t : KeygenCase) → HasText d (codes "kind") (codes "keygen") → HasSet d set → keygen_in n set d ≡ Ok t → IsKeygen d t
unfolding keygen_in
keygen_found n set d t kind name e =
    let a = bind_ok (seeds_in n set d) _ t e in
    let b = bind_ok (bytes_in n members.Sk (4 * (params set).n) d) _ t a.2 in
    let c = bind_ok (bytes_in n members.Pk (2 * (params set).n) d) _ t b.2 in
    let seeds = seeds_found n set d a.0 a.1 in
    let made : KeygenCase = record { set = set; seeds = a.0; sk = b.0; pk = c.0 } in
    let whole : IsKeygen d made = record {
      kind = kind;
      set = name;
      sk_seed = seeds.sk_seed;
      sk_prf = seeds.sk_prf;
      pk_seed = seeds.pk_seed;
      sk = bytes_found n members.Sk (4 * (params set).n) d b.0 b.1;
      pk = bytes_found n members.Pk (2 * (params set).n) d c.0 c.1;
    } in
    subst (λ (x : KeygenCase). IsKeygen d x) (ok_is made t c.2) whole

of_kind_found : (n : ℕ) (k : Kind) (set : ParamSet) (d : Data) (c : Case) → HasText d (codes "kind") (kind_name k) → HasSet d set → of_kind n k set d ≡ Ok c → IsTest d c
unfolding of_kind
of_kind_found n kinds.Keygen set d c kind name e =
    let a = bind_ok (keygen_in n set d) (λ t. Ok (keygen t)) c e in
    subst (λ (x : Case). IsTest d x) (ok_is (keygen a.0) c a.2) (keygen_found n set d a.0 kind name a.1)
of_kind_found n kinds.Sign set d c kind name e =
    let a = bind_ok (sign_in n set d) (λ t. Ok (sign t)) c e in
    subst (λ (x : Case). IsTest d x) (ok_is (sign a.0) c a.2) (sign_found n set d a.0 kind name a.1)
of_kind_found n kinds.Verify set d c kind name e =
    let a = bind_ok (verify_in n set d) (λ t. Ok (verify t)) c e in
    subst (λ (x : Case). IsTest d x) (ok_is (verify a.0) c a.2) (verify_found n set d a.0 kind name a.1)

test_found : (n : ℕ) (d : Data) (c : Case) → test_in n d ≡ Ok c → IsTest d c
unfolding test_in
test_found n d c e =
    let a = bind_ok (kind_in n d) (λ k. set_in n d >>= λ set. of_kind n k set d) c e in
    let b = bind_ok (set_in n d) (λ set. of_kind n a.0 set d) c a.2 in
    of_kind_found n a.0 b.0 d c (kind_found n d a.0 a.1) (set_found n d b.0 b.1) b.2

tests_found : (n : ℕ) (ds : Items) (cs : List Case) → tests_from n ds ≡ Ok cs → AreTests ds cs
unfolding tests_from
tests_found n no_items cs e = subst (λ (x : List Case). AreTests no_items x) (ok_is [] cs e) tt
tests_found n (item d ds) cs e =
    let a = bind_ok (test_in n d) (λ first. tests_from (n + 1) ds >>= λ others. Ok (first ∷ others)) cs e in
    let b = bind_ok (tests_from (n + 1) ds) (λ others. Ok (a.0 ∷ others)) cs a.2 in
    subst (λ (x : List Case). AreTests (item d ds) x) (ok_is (a.0 ∷ b.0) cs b.2) (test_found n d a.0 a.1, tests_found (n + 1) ds b.0 b.1)

array_from : (d : Data) (ds : Items) → as_array d ≡ Some ds → d ≡ array ds
array_from (array es) ds e = cc
array_from null ds e = absurd cc
array_from (boolean b) ds e = absurd cc
array_from (string s) ds e = absurd cc
array_from (number n) ds e = absurd cc
array_from (object ms) ds e = absurd cc

json_from : (bytes : List ℕ) (d : Data) → json_of bytes ≡ Some d → IsUtf8 bytes × (read bytes ≡ Some d)
json_from bytes d e = both (is_utf8 bytes) refl e
  where
    both : (b : Bool) → is_utf8 bytes ≡ b → cond b (read bytes) None ≡ Some d → IsUtf8 bytes × (read bytes ≡ Some d)
    both true is h = (IsUtf8-from_is_utf8 bytes is, h)
    both false is h = absurd cc

pub file_found : (bytes : List ℕ) (cs : List Case) → tests_in bytes ≡ Ok cs → IsVectorFile bytes cs
unfolding tests_in
file_found bytes cs e =
    let a = bind_ok (or_fault (json_of bytes) NotJson) (λ d. or_fault (as_array d) NotAList >>= tests_from 1) cs e in
    let b = bind_ok (or_fault (as_array a.0) NotAList) (tests_from 1) cs a.2 in
    let json = json_from bytes a.0 (some_from (json_of bytes) NotJson a.0 a.1) in
    let list = array_from a.0 b.0 (some_from (as_array a.0) NotAList b.0 b.1) in
    record { utf8 = json.0; items = b.0; json = json.1 ∙ ap (λ (d : Data). Some d) list; tests = tests_found 1 b.0 cs b.2 }

pub is_found : (bytes : List ℕ) (r : Result (Vec Test Global) VectorFault) → Gives (λ ts. views ts.items) r (tests_in bytes) → IfOk r (λ ts. IsVectorFile bytes (views ts.items))
is_found bytes (Ok ts) given = file_found bytes (views ts.items) given
is_found bytes (Err e) given = tt
