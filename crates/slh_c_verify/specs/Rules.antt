-- The rules that the calls check of their arguments, in their order (ours): the rules of slh_c.
use Rattle.std.specs.Prelude.{ℕ, ◌==◌, Bool, false, if◌then◌else◌, List, [], ◌∷◌, length, Option, None, Some}
use Rattle.slh_params.specs.Params.{pk_len}
use Rattle.slh_params.specs.ParamSet.{params}
use Rattle.slh_params.specs.declared.param_set.ParamSet.{ParamSet}
use Rattle.slh_core.specs.PreHash.{digest_len}
use Rattle.slh_core.specs.declared.pre_hash.PreHash.{PreHash}
use Rattle.slh_c_verify.specs.Numbers.{set_numbered, function_numbered}
use Rattle.slh_c_verify.specs.Refusals.{number}
use Rattle.slh_c_verify.specs.declared.refusal.Refusal.{Refusal}
use Rattle.slh_c_verify.specs.declared.refusal.Refusal.TheVariants.{BadLength, NoSuchSet, NoSuchFunction, BadDigestLength}

-- a condition on an argument, and the refusal if it does not hold
pub record Rule : Type 0 where
  pub is_met : Bool
  pub refusal : Refusal

-- the number of the first rule that is not met, and 0 if all are
abbrev pub first_refusal : List Rule → ℕ
first_refusal [] = 0
first_refusal (rule ∷ rules) = if rule.is_met then first_refusal rules else number rule.refusal

-- the rule that a number is one of a list, and then the rules for its item
abbrev pub numbered : {A : Type 0} → Option A → Refusal → (A → List Rule) → List Rule
numbered None refusal rules = record { is_met = false; refusal = refusal } ∷ []
numbered (Some value) refusal rules = rules value

abbrev pub in_set : ℕ → (ParamSet → List Rule) → List Rule
in_set set rules = numbered (set_numbered set) NoSuchSet rules

abbrev pub with_function : ℕ → (PreHash → List Rule) → List Rule
with_function function rules = numbered (function_numbered function) NoSuchFunction rules

abbrev pub has_len : List ℕ → ℕ → Refusal → Rule
has_len bytes len refusal = record { is_met = length bytes == len; refusal = refusal }

abbrev pub public : ParamSet → List ℕ → Rule
public set pk = has_len pk (pk_len (params set)) BadLength

abbrev pub digest : PreHash → List ℕ → Rule
digest function bytes = has_len bytes (digest_len function) BadDigestLength

-- a context of over 255 bytes or a signature of another length is invalid, and no refusal
abbrev pub verify_rules : ℕ → List ℕ → List Rule
verify_rules set pk = in_set set (λ s. public s pk ∷ [])

abbrev pub hash_verify_rules : ℕ → ℕ → List ℕ → List Rule
hash_verify_rules set function pk = in_set set (λ s. with_function function (λ _. public s pk ∷ []))

abbrev pub hash_verify_digest_rules : ℕ → ℕ → List ℕ → List ℕ → List Rule
hash_verify_digest_rules set function pk bytes =
    in_set set (λ s. with_function function (λ f. public s pk ∷ digest f bytes ∷ []))
