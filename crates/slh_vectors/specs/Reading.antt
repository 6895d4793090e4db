-- Reading a vector file, with the first fault that is met.
use Rattle.std.specs.Prelude.{◌≡◌, ◌+◌, ◌*◌, ◌==◌, ◌||◌, ℕ, List, [], ◌∷◌, length, Bool, Option, Some, None, Result, Ok, Err, codes, if◌then◌else◌}
use Rattle.std.specs.Str.{is_utf8}
use Rattle.hex.specs.declared.error.FromHexError.{FromHexError}
use Rattle.hex.specs.Hex.{decode_of}
use Rattle.serde_json.specs.Data.{Data, Items, no_items, item}
use Rattle.serde_json.specs.Find.{get, as_bool, as_str, as_array}
use Rattle.serde_json.specs.Read.{read}
use Rattle.slh_params.specs.ParamSet.{params, set_named}
use Rattle.slh_params.specs.declared.param_set.ParamSet.{ParamSet}
use Rattle.slh_vectors.specs.Cases.{SeedsCase, InputCase, KeygenCase, SignCase, VerifyCase, Case, keygen, sign, verify}
use Rattle.slh_vectors.specs.Names.{kind_named, form_named}
use Rattle.slh_vectors.specs.declared.fault.Member.{Member}
use Rattle.slh_vectors.specs.declared.fault.Member.TheVariants as members
use Rattle.slh_vectors.specs.declared.fault.VectorFault.{VectorFault}
use Rattle.slh_vectors.specs.declared.fault.VectorFault.TheVariants.{NoMemory, NotJson, NotAList, Missing, Bad}
use Rattle.slh_vectors.specs.declared.test.Kind.{Kind}
use Rattle.slh_vectors.specs.declared.test.Kind.TheVariants as kinds
use Rattle.slh_vectors.specs.declared.test.Interface.{Interface}
use Rattle.slh_vectors.specs.declared.test.Interface.TheVariants.{Internal, External}

infixl 10 ◌>>=◌
abbrev pub ◌>>=◌ : {A B : Type 0} → Result A VectorFault → (A → Result B VectorFault) → Result B VectorFault
Ok x >>= f = f x
Err e >>= f = Err e

abbrev pub or_fault : {A : Type 0} → Option A → VectorFault → Result A VectorFault
or_fault (Some x) f = Ok x
or_fault None f = Err f

-- a fault is that of reading, unless memory ran out
abbrev pub Fails : {Y : Type 0} → VectorFault → Result Y VectorFault → Type 0
Fails NoMemory reading = Unit {0}
Fails NotJson reading = reading ≡ Err NotJson
Fails NotAList reading = reading ≡ Err NotAList
Fails (Missing n m) reading = reading ≡ Err (Missing n m)
Fails (Bad n m) reading = reading ≡ Err (Bad n m)

-- the result of a function, seen by view, is that of reading, unless memory ran out
abbrev pub Gives : {X Y : Type 0} → (X → Y) → Result X VectorFault → Result Y VectorFault → Type 0
Gives view (Ok x) reading = reading ≡ Ok (view x)
Gives view (Err e) reading = Fails e reading

abbrev pub member_name : Member → List ℕ
member_name members.Kind = codes "kind"
member_name members.Set = codes "set"
member_name members.SkSeed = codes "skSeed"
member_name members.SkPrf = codes "skPrf"
member_name members.PkSeed = codes "pkSeed"
member_name members.Sk = codes "sk"
member_name members.Pk = codes "pk"
member_name members.Form = codes "form"
member_name members.Message = codes "message"
member_name members.Context = codes "context"
member_name members.Random = codes "random"
member_name members.Signature = codes "signature"
member_name members.Valid = codes "valid"

abbrev pub fault_number : VectorFault → ℕ
fault_number NoMemory = 1
fault_number NotJson = 21
fault_number NotAList = 22
fault_number (Missing n m) = 23
fault_number (Bad n m) = 24

abbrev pub fault_name : VectorFault → List ℕ
fault_name NoMemory = codes "NoMemory"
fault_name NotJson = codes "NotJson"
fault_name NotAList = codes "NotAList"
fault_name (Missing n m) = codes "Missing"
fault_name (Bad n m) = codes "Bad"

-- ---- one member of test n

abbrev pub member_in : ℕ → Member → Data → Result Data VectorFault
member_in n m d = or_fault (get (member_name m) d) (Missing n m)

abbrev pub text_in : ℕ → Member → Data → Result (List ℕ) VectorFault
text_in n m d = member_in n m d >>= λ v. or_fault (as_str v) (Bad n m)

abbrev pub bool_in : ℕ → Member → Data → Result Bool VectorFault
bool_in n m d = member_in n m d >>= λ v. or_fault (as_bool v) (Bad n m)

abbrev pub decoded : ℕ → Member → Result (List ℕ) FromHexError → Result (List ℕ) VectorFault
decoded n m (Ok bytes) = Ok bytes
decoded n m (Err e) = Err (Bad n m)

unfoldable pub hex_in : ℕ → Member → Data → Result (List ℕ) VectorFault
hex_in n m d = text_in n m d >>= λ s. decoded n m (decode_of s)

unfoldable pub bytes_in : ℕ → Member → ℕ → Data → Result (List ℕ) VectorFault
bytes_in n m len d = hex_in n m d >>= λ bytes. if length bytes == len then Ok bytes else Err (Bad n m)

unfoldable pub kind_in : ℕ → Data → Result Kind VectorFault
kind_in n d = text_in n members.Kind d >>= λ s. or_fault (kind_named s) (Bad n members.Kind)

unfoldable pub set_in : ℕ → Data → Result ParamSet VectorFault
set_in n d = text_in n members.Set d >>= λ s. or_fault (set_named s) (Bad n members.Set)

unfoldable pub form_in : ℕ → Data → Result Interface VectorFault
form_in n d = text_in n members.Form d >>= λ s. or_fault (form_named s) (Bad n members.Form)

-- a message that is signed as it is has no context
unfoldable pub context_in : ℕ → Interface → Data → Result (List ℕ) VectorFault
context_in n Internal d = Ok []
context_in n (External form) d = hex_in n members.Context d

-- no bytes mean the deterministic variant
unfoldable pub random_in : ℕ → ParamSet → Data → Result (List ℕ) VectorFault
random_in n set d = hex_in n members.Random d >>= λ bytes.
    if length bytes == 0 || length bytes == (params set).n then Ok bytes else Err (Bad n members.Random)

-- ---- test n

unfoldable pub seeds_in : ℕ → ParamSet → Data → Result SeedsCase VectorFault
seeds_in n set d = do
  sk_seed ← bytes_in n members.SkSeed ((params set).n) d
  sk_prf ← bytes_in n members.SkPrf ((params set).n) d
  pk_seed ← bytes_in n members.PkSeed ((params set).n) d
  Ok (record { sk_seed = sk_seed; sk_prf = sk_prf; pk_seed = pk_seed })

unfoldable pub input_in : ℕ → Data → Result InputCase VectorFault
input_in n d = do
  form ← form_in n d
  message ← hex_in n members.Message d
  context ← context_in n form d
  Ok (record { form = form; message = message; context = context })

unfoldable pub keygen_in : ℕ → ParamSet → Data → Result KeygenCase VectorFault
keygen_in n set d = do
  seeds ← seeds_in n set d
  sk ← bytes_in n members.Sk (4 * (params set).n) d
  pk ← bytes_in n members.Pk (2 * (params set).n) d
  Ok (record { set = set; seeds = seeds; sk = sk; pk = pk })

unfoldable pub sign_in : ℕ → ParamSet → Data → Result SignCase VectorFault
sign_in n set d = do
  sk ← bytes_in n members.Sk (4 * (params set).n) d
  input ← input_in n d
  random ← random_in n set d
  signature ← hex_in n members.Signature d
  Ok (record { set = set; sk = sk; input = input; random = random; signature = signature })

unfoldable pub verify_in : ℕ → ParamSet → Data → Result VerifyCase VectorFault
verify_in n set d = do
  pk ← bytes_in n members.Pk (2 * (params set).n) d
  input ← input_in n d
  signature ← hex_in n members.Signature d
  valid ← bool_in n members.Valid d
  Ok (record { set = set; pk = pk; input = input; signature = signature; valid = valid })

unfoldable pub of_kind : ℕ → Kind → ParamSet → Data → Result Case VectorFault
of_kind n kinds.Keygen set d = keygen_in n set d >>= λ t. Ok (keygen t)
of_kind n kinds.Sign set d = sign_in n set d >>= λ t. Ok (sign t)
of_kind n kinds.Verify set d = verify_in n set d >>= λ t. Ok (verify t)

unfoldable pub test_in : ℕ → Data → Result Case VectorFault
test_in n d = do
  kind ← kind_in n d
  set ← set_in n d
  of_kind n kind set d

-- ---- the file

-- the tests in order, the first of them with number n
unfoldable pub tests_from : ℕ → Items → Result (List Case) VectorFault
tests_from n no_items = Ok []
tests_from n (item d ds) = do
  first ← test_in n d
  others ← tests_from (n + 1) ds
  Ok (first ∷ others)

abbrev pub json_of : List ℕ → Option Data
json_of bytes = if is_utf8 bytes then read bytes else None

unfoldable pub tests_in : List ℕ → Result (List Case) VectorFault
tests_in bytes = do
  d ← or_fault (json_of bytes) NotJson
  items ← or_fault (as_array d) NotAList
  tests_from 1 items
