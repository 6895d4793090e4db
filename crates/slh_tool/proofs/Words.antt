-- From what `clap` answers to what the arguments ask for.
use Rattle.std.proofs.Common.{arith, [], List, ◌⊎◌, inl, inr, subst, ◌≡◌, ◌≢◌, ◌∙◌, ℕ, Bool, true, false, Option, Some, None, Result, Ok, Err, unwrap_or, refl, sym}
use Rattle.std.specs.Option.{option_map_or}
use Rattle.std.specs.Prelude.{codes}
use Rattle.std.specs.Result.{result_unwrap_or}
use Rattle.std.specs.Str.{bytes_eq}
use Rattle.std.specs.Str.Parse.{ParsesBool, ParsesUnsigned}
use Rattle.std.proofs.lemmas.Slice.Eq.{bytes_eq-Decides}
use Rattle.clap.proofs.WalkLemmas.{byte_read}
use Rattle.clap.specs.Walk.{byte_or_zero}
use Rattle.clap.specs.Words.{ReadsOne, Text, is_simple}
use Rattle.clap.specs.Faults.{is_simple_and_free}
use Rattle.clap.specs.Kinds.{IsAmong, Kinds}
use Rattle.clap.specs.declared.error.ErrorKind.{ErrorKind}
use Rattle.clap.specs.declared.error.ErrorKind.TheVariants.{OutOfMemory}
use Rattle.std.proofs.KnownBytes.{Consumes-nil}
use Rattle.slh_io.specs.Devices.{TakesAtMost}
use Rattle.slh_tool.specs.Arguments.{slh_app}

-- the program's command is one whose parse `clap` states
pub slh_app_simple : is_simple slh_app ≡ true
slh_app_simple = refl

pub slh_app_free : is_simple_and_free slh_app ≡ true
slh_app_free = refl

-- an error of a known kind, which is not memory, is among the faults
pub known_among : (known k : ErrorKind) (kinds : Kinds) → (known ≢ OutOfMemory) → (k ≡ OutOfMemory) ⊎ IsAmong k kinds → known ≡ k → IsAmong known kinds
known_among known k kinds other (inl o) e = absurd (other (e ∙ o))
known_among known k kinds other (inr a) e = subst (λ (x : ErrorKind). IsAmong x kinds) (sym e) a

-- an error of another kind than memory has a kind that may come
pub among_other : (k : ErrorKind) (kinds : Kinds) → (k ≡ OutOfMemory) ⊎ IsAmong k kinds → (k ≢ OutOfMemory) → IsAmong k kinds
among_other k kinds (inl o) other = absurd (other o)
among_other k kinds (inr a) other = a

-- the number that `get_one` reads of an option, and 0 where there is none
pub number_read : (E : Type 0) (G : Text → Result ℕ E → Type 0) (o : Option Text) (r : Option ℕ) → ((t : Text) (x : Result ℕ E) → G t x → ParsesUnsigned 8 10 t x)
    → (o ≡ None → r ≡ None) → ((t : Text) → o ≡ Some t → ReadsOne G t r) → unwrap_or r 0 ≡ option_map_or byte_or_zero o 0
number_read E G None r parses none value = rw (none refl) refl
number_read E G (Some t) (Some n) parses none value = byte_read {E = E} t (Ok n) (parses t (Ok n) (value t refl))
number_read E G (Some t) None parses none value = let e = value t refl in byte_read {E = E} t (Err e.0) (parses t (Err e.0) e.1)

-- whether `bool` reads true of a text
bool_read : {E : Type 0} (text : Text) (r : Result Bool E) → ParsesBool text r → result_unwrap_or r false ≡ bytes_eq text (codes "true")
bool_read text (Ok true) h = sym ((bytes_eq-Decides text (codes "true")).1 h)
bool_read text (Ok false) h = rw h refl
bool_read text (Err e) h = go (bytes_eq text (codes "true")) refl
  where
    go : (b : Bool) → bytes_eq text (codes "true") ≡ b → false ≡ b
    go true t = absurd (h.0 ((bytes_eq-Decides text (codes "true")).0 t))
    go false t = refl

-- what `get_one` reads of a flag, and false where it has no value
pub flag_read : (E : Type 0) (o : Option Text) (r : Option Bool) → (o ≡ None → r ≡ None) → ((t : Text) → o ≡ Some t → ReadsOne (ParsesBool {E = E}) t r)
    → unwrap_or r false ≡ option_map_or (λ text. bytes_eq text (codes "true")) o false
flag_read E None r none value = rw (none refl) refl
flag_read E (Some t) (Some b) none value = bool_read {E = E} t (Ok b) (value t refl)
flag_read E (Some t) None none value = let e = value t refl in bool_read {E = E} t (Err e.0) e.1

-- where nothing was taken, no more was taken than any number
pub none_taken : (left : Option (List ℕ)) (limit : ℕ) → TakesAtMost left left limit
none_taken left limit = ([], Consumes-nil left, omega arith)
