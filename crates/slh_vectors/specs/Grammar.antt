-- The content of a vector file, apart from the order in which it is checked. Its sets are the standard's.
use Rattle.std.specs.Prelude.{◌≡◌, ◌≢◌, ◌*◌, ℕ, List, [], ◌∷◌, length, Some, Ok, codes}
use Rattle.hex.specs.Hex.{decode_of}
use Rattle.std.specs.Str.{IsUtf8}
use Rattle.serde_json.specs.Read.{read}
use Rattle.serde_json.specs.Data.{Data, boolean, string, array, Items, no_items, item}
use Rattle.serde_json.specs.Find.{get}
use Rattle.slh_params.specs.ParamSet.{IsStandard, params, name}
use Rattle.slh_params.specs.declared.param_set.ParamSet.{ParamSet}
use Rattle.slh_vectors.specs.Cases.{InputCase, KeygenCase, SignCase, VerifyCase, Case, keygen, sign, verify}
use Rattle.slh_vectors.specs.Names.{form_name}
use Rattle.slh_vectors.specs.declared.test.Interface.{Interface}
use Rattle.slh_vectors.specs.declared.test.Interface.TheVariants.{Internal, External}

-- the member is there, and it is this text
abbrev pub HasText : Data → List ℕ → List ℕ → Type 0
HasText d name text = get name d ≡ Some (string text)

-- the member is the hexadecimal text of these bytes
pub record HasHex (d : Data) (name bytes : List ℕ) : Type 0 where
  pub digits : List ℕ
  pub text : HasText d name digits
  pub spells : decode_of digits ≡ Ok bytes

-- and there are this many of them
pub record HasBytes (d : Data) (name : List ℕ) (len : ℕ) (bytes : List ℕ) : Type 0 where
  pub hex : HasHex d name bytes
  pub sized : length bytes ≡ len

-- a message that is signed as it is has no context
abbrev pub HasContext : Data → Interface → List ℕ → Type 0
HasContext d Internal context = context ≡ []
HasContext d (External form) context = HasHex d (codes "context") context

pub record HasInput (d : Data) (i : InputCase) : Type 0 where
  pub form : HasText d (codes "form") (form_name i.form)
  pub message : HasHex d (codes "message") i.message
  pub context : HasContext d i.form i.context

-- the set is one of the standard's, by its name
abbrev pub HasSet : Data → ParamSet → Type 0
HasSet d set = IsStandard set × HasText d (codes "set") (name set)

pub record IsVerify (d : Data) (t : VerifyCase) : Type 0 where
  pub kind : HasText d (codes "kind") (codes "verify")
  pub set : HasSet d t.set
  pub pk : HasBytes d (codes "pk") (2 * (params t.set).n) t.pk
  pub input : HasInput d t.input
  pub signature : HasHex d (codes "signature") t.signature
  pub valid : get (codes "valid") d ≡ Some (boolean t.valid)

pub record IsSign (d : Data) (t : SignCase) : Type 0 where
  pub kind : HasText d (codes "kind") (codes "sign")
  pub set : HasSet d t.set
  pub sk : HasBytes d (codes "sk") (4 * (params t.set).n) t.sk
  pub input : HasInput d t.input
  pub random : HasHex d (codes "random") t.random
  pub random_sized : length t.random ≢ 0 → length t.random ≡ (params t.set).n
  pub signature : HasHex d (codes "signature") t.signature

pub record IsKeygen (d : Data) (t : KeygenCase) : Type 0 where
  pub kind : HasText d (codes "kind") (codes "keygen")
  pub set : HasSet d t.set
  pub sk_seed : HasBytes d (codes "skSeed") ((params t.set).n) t.seeds.sk_seed
  pub sk_prf : HasBytes d (codes "skPrf") ((params t.set).n) t.seeds.sk_prf
  pub pk_seed : HasBytes d (codes "pkSeed") ((params t.set).n) t.seeds.pk_seed
  pub sk : HasBytes d (codes "sk") (4 * (params t.set).n) t.sk
  pub pk : HasBytes d (codes "pk") (2 * (params t.set).n) t.pk

-- the members of the test are those of its kind
abbrev pub IsTest : Data → Case → Type 0
IsTest d (keygen t) = IsKeygen d t
IsTest d (sign t) = IsSign d t
IsTest d (verify t) = IsVerify d t

-- these are the tests of the list, in its order
abbrev pub AreTests : Items → List Case → Type 0
AreTests no_items [] = Unit {0}
AreTests (item d ds) (c ∷ cs) = IsTest d c × AreTests ds cs
AreTests no_items (c ∷ cs) = ⊥
AreTests (item d ds) [] = ⊥

-- the file is a list of these tests
pub record IsVectorFile (bytes : List ℕ) (cs : List Case) : Type 0 where
  pub utf8 : IsUtf8 bytes
  pub items : Items
  pub json : read bytes ≡ Some (array items)
  pub tests : AreTests items cs
