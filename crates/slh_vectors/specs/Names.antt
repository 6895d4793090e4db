-- The meaning of names.
use Rattle.std.specs.Prelude.{List, ℕ, Option, Some, None, option_map, codes, if◌then◌else◌}
use Rattle.std.specs.Str.{bytes_eq}
use Rattle.slh_core.specs.PreHash as pre_hash
use Rattle.slh_core.specs.declared.pre_hash.PreHash.{PreHash}
use Rattle.slh_vectors.specs.declared.test.Kind.{Kind}
use Rattle.slh_vectors.specs.declared.test.Kind.TheVariants as kinds
use Rattle.slh_vectors.specs.declared.test.Interface.{Interface}
use Rattle.slh_vectors.specs.declared.test.Interface.TheVariants.{Internal, External}
use Rattle.slh_core.specs.declared.form.Form.TheVariants as forms

abbrev pub kind_name : Kind → List ℕ
kind_name kinds.Keygen = codes "keygen"
kind_name kinds.Sign = codes "sign"
kind_name kinds.Verify = codes "verify"

-- the kind of this name
abbrev pub kind_named : List ℕ → Option Kind
kind_named text = if bytes_eq text (kind_name kinds.Keygen) then Some kinds.Keygen
    else (if bytes_eq text (kind_name kinds.Sign) then Some kinds.Sign
    else (if bytes_eq text (kind_name kinds.Verify) then Some kinds.Verify else None))

abbrev pub form_name : Interface → List ℕ
form_name Internal = codes "internal"
form_name (External forms.Pure) = codes "pure"
form_name (External (forms.PreHash function)) = pre_hash.name function

-- the pre-hash form with a function
abbrev pub pre_hashed : PreHash → Interface
pre_hashed function = External (forms.PreHash function)

-- the form of this name
abbrev pub form_named : List ℕ → Option Interface
form_named text = if bytes_eq text (form_name Internal) then Some Internal
    else (if bytes_eq text (form_name (External forms.Pure)) then Some (External forms.Pure) else option_map pre_hashed (pre_hash.function_named text))
