-- The options on the form in which a message is signed.
use Rattle.std.specs.Prelude.{◌≡◌, ⊤, ◌⊎◌, [], Option, Some, None, option_map}
use Rattle.std.specs.Result.{result_ok}
use Rattle.clap.specs.Words.{Text}
use Rattle.hex.specs.Hex.{decode_of, decode_sized}
use Rattle.slh_core.specs.Keys.{Key, pk_seed, public_of}
use Rattle.slh_core.specs.PreHash.{function_named}
use Rattle.slh_core.specs.Signatures.{signature}
use Rattle.slh_core.specs.declared.form.Form.{Form}
use Rattle.slh_core.specs.declared.form.Form.TheVariants.{Pure, PreHash}
use Rattle.slh_params.specs.ParamSet.{params}
use Rattle.slh_params.specs.declared.param_set.ParamSet.{ParamSet}
use Rattle.slh_tool.specs.Requests.{FormOptions}
use Rattle.slh_tool.specs.declared.fault.Fault.{Fault}
use Rattle.slh_tool.specs.declared.fault.Fault.TheVariants.{BadOption, NoMemory}

-- the context of its digits, which is empty if there are none
unfoldable pub context_of : Option Text → Option Text
context_of None = Some []
context_of (Some digits) = result_ok (decode_of digits)

-- the pre-hash form with the function that an option names, or the pure form if it is absent
unfoldable pub form_of : Option Text → Option Form
form_of None = Some Pure
form_of (Some text) = option_map (λ function. PreHash function) (function_named text)

-- the n bytes of a randomizer that an option spells, if it is given
unfoldable pub random_of : ParamSet → Option Text → Option (Option Text)
random_of set None = Some None
random_of set (Some digits) = option_map (λ bytes. Some bytes) (result_ok (decode_sized digits (params set).n))

-- the context and the form that the options give
abbrev pub HasForm : FormOptions → Text → Form → Type 0
HasForm options context form = (context_of options.context ≡ Some context) × (form_of options.prehash ≡ Some form)

-- why the options give none: memory, or one of them has an invalid value
abbrev pub RefusesForm : FormOptions → Fault → Type 0
RefusesForm options NoMemory = ⊤
RefusesForm options BadOption = (context_of options.context ≡ None) ⊎ (form_of options.prehash ≡ None)
RefusesForm options fault = ⊥

-- opt_rand: the given randomizer, or PK.seed in the deterministic variant (FIPS 205, Algorithm 19, line 2)
abbrev pub opt_rand_of : Option Text → Text → Text
opt_rand_of None seed = seed
opt_rand_of (Some random) seed = random

-- the signature of M' under a secret key and a randomizer (Algorithms 19, 22 and 23)
abbrev pub signature_of : Key → Text → Option Text → Text
signature_of sk message random = signature sk message (opt_rand_of random (pk_seed (public_of sk)))
