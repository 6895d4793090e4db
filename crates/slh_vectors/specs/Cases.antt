-- Tests without their places in memory.
use Rattle.std.specs.Prelude.{ℕ, List, Bool, map}
use Rattle.slh_params.specs.declared.param_set.ParamSet.{ParamSet}
use Rattle.slh_vectors.specs.declared.test.Kind.{Kind}
use Rattle.slh_vectors.specs.declared.test.Kind.TheVariants as kinds
use Rattle.slh_vectors.specs.declared.test.Interface.{Interface}
use Rattle.slh_vectors.specs.declared.test.Seeds.{Seeds}
use Rattle.slh_vectors.specs.declared.test.Input.{Input}
use Rattle.slh_vectors.specs.declared.test.KeygenTest.{KeygenTest}
use Rattle.slh_vectors.specs.declared.test.SignTest.{SignTest}
use Rattle.slh_vectors.specs.declared.test.VerifyTest.{VerifyTest}
use Rattle.slh_vectors.specs.declared.test.Test.{Test}
use Rattle.slh_vectors.specs.declared.test.Test.TheVariants.{Keygen, Sign, Verify}

pub record SeedsCase : Type 0 where
  pub sk_seed : List ℕ
  pub sk_prf : List ℕ
  pub pk_seed : List ℕ

pub record InputCase : Type 0 where
  pub form : Interface
  pub message : List ℕ
  pub context : List ℕ

pub record KeygenCase : Type 0 where
  pub set : ParamSet
  pub seeds : SeedsCase
  pub sk : List ℕ
  pub pk : List ℕ

pub record SignCase : Type 0 where
  pub set : ParamSet
  pub sk : List ℕ
  pub input : InputCase
  pub random : List ℕ
  pub signature : List ℕ

pub record VerifyCase : Type 0 where
  pub set : ParamSet
  pub pk : List ℕ
  pub input : InputCase
  pub signature : List ℕ
  pub valid : Bool

pub data Case : Type 0 where
  keygen : KeygenCase → Case
  sign : SignCase → Case
  verify : VerifyCase → Case

abbrev pub seeds_view : Seeds → SeedsCase
seeds_view s = record { sk_seed = s.sk_seed.items; sk_prf = s.sk_prf.items; pk_seed = s.pk_seed.items }

abbrev pub input_view : Input → InputCase
input_view i = record { form = i.form; message = i.message.items; context = i.context.items }

abbrev pub keygen_view : KeygenTest → KeygenCase
keygen_view t = record { set = t.set; seeds = seeds_view t.seeds; sk = t.sk.items; pk = t.pk.items }

abbrev pub sign_view : SignTest → SignCase
sign_view t = record { set = t.set; sk = t.sk.items; input = input_view t.input; random = t.random.items; signature = t.signature.items }

abbrev pub verify_view : VerifyTest → VerifyCase
verify_view t = record { set = t.set; pk = t.pk.items; input = input_view t.input; signature = t.signature.items; valid = t.valid }

abbrev pub test_view : Test → Case
test_view (Keygen t) = keygen (keygen_view t)
test_view (Sign t) = sign (sign_view t)
test_view (Verify t) = verify (verify_view t)

abbrev pub views : List Test → List Case
views ts = map test_view ts

abbrev pub kind_of : Case → Kind
kind_of (keygen t) = kinds.Keygen
kind_of (sign t) = kinds.Sign
kind_of (verify t) = kinds.Verify

abbrev pub set_of : Case → ParamSet
set_of (keygen t) = t.set
set_of (sign t) = t.set
set_of (verify t) = t.set
