-- The rules that the calls check of their arguments, in their order (ours).
use Rattle.std.specs.Prelude.{⊤, ◌≡◌, ℕ, ◌+◌, ◌*◌, ◌==◌, ◌||◌, nat_lt, nat_le, true, false, if◌then◌else◌, List, [], ◌∷◌, length, Option, None, Some}
use Rattle.slh_params.specs.Params.{pk_len, sk_len, sig_len}
use Rattle.slh_params.specs.ParamSet.{params}
use Rattle.slh_params.specs.declared.param_set.ParamSet.{ParamSet}
use Rattle.slh_hash.specs.Keyed.{inner_hash_len}
use Rattle.slh_core.specs.HashedMessages.{front_len}
use Rattle.slh_core.specs.PreHash.{digest_len}
use Rattle.slh_core.specs.declared.pre_hash.PreHash.{PreHash}
use Rattle.slh_jobs.specs.Jobs.{jobs, len_of, answers_len}
use Rattle.slh_jobs.specs.KeyJobs.{key_jobs}
use Rattle.slh_jobs.specs.Tags.{start_len}
use Rattle.slh_jobs.specs.declared.levels.Levels.{Levels}
use Rattle.slh_key_files.specs.KeyFile.{key_len}
use Rattle.slh_key_files.specs.Pkix.{der_len, pem_len}
use Rattle.slh_c.specs.Cuttings.{levels_of}
use Rattle.slh_c.specs.KeyFiles.{kind_numbered}
use Rattle.slh_c.specs.Numbers.{set_numbered, function_numbered}
use Rattle.slh_c.specs.Refusals.{number, name, refusal_numbered}
use Rattle.slh_c.specs.declared.many.Signed.{Signed}
use Rattle.slh_c.specs.declared.refusal.Refusal.{Refusal}
use Rattle.slh_c.specs.declared.rules.Rule.{Rule}
use Rattle.slh_c.specs.declared.refusal.Refusal.TheVariants.{ContextTooLong, BadLength, BadCutting, NoSuchSet, NoSuchFunction, BadSeedLength, BadDigestLength, BadRandomizerLength, BadOutputLength, NoSuchRefusal, BadAnswersLength, NoSuchJob, BadStartLength, NoSuchKind}

-- the number of the first rule that is not met, and 0 if all are
abbrev pub first_refusal : List Rule → ℕ
first_refusal [] = 0
first_refusal (rule ∷ rules) = if rule.is_met then first_refusal rules else number rule.refusal

-- all rules are met
abbrev pub AreMet : List Rule → Type 0
AreMet [] = ⊤
AreMet (rule ∷ rules) = (rule.is_met ≡ true) × AreMet rules

-- the rule that a number is one of a list, and then the rules for its item
abbrev pub numbered : {A : Type 0} → Option A → Refusal → (A → List Rule) → List Rule
numbered None refusal rules = record { is_met = false; refusal = refusal } ∷ []
numbered (Some value) refusal rules = rules value

abbrev pub in_set : ℕ → (ParamSet → List Rule) → List Rule
in_set set rules = numbered (set_numbered set) NoSuchSet rules

abbrev pub with_function : ℕ → (PreHash → List Rule) → List Rule
with_function function rules = numbered (function_numbered function) NoSuchFunction rules

abbrev pub cut_in : ℕ → ℕ → ℕ → (Levels → List Rule) → List Rule
cut_in set xmss fors rules = in_set set (λ s. numbered (levels_of s xmss fors) BadCutting rules)

abbrev pub below : ℕ → ℕ → Rule
below job count = record { is_met = nat_lt job count; refusal = NoSuchJob }

abbrev pub has_len : List ℕ → ℕ → Refusal → Rule
has_len bytes len refusal = record { is_met = length bytes == len; refusal = refusal }

abbrev pub secret : ParamSet → List ℕ → Rule
secret set sk = has_len sk (sk_len (params set)) BadLength

abbrev pub public : ParamSet → List ℕ → Rule
public set pk = has_len pk (pk_len (params set)) BadLength

abbrev pub seed : ParamSet → List ℕ → Rule
seed set bytes = has_len bytes (params set).n BadSeedLength

abbrev pub digest : PreHash → List ℕ → Rule
digest function bytes = has_len bytes (digest_len function) BadDigestLength

abbrev pub inner_hash : ParamSet → List ℕ → Rule
inner_hash set bytes = has_len bytes (inner_hash_len (params set)) BadDigestLength

-- none for the deterministic variant, or n
abbrev pub randomizer : ParamSet → List ℕ → Rule
randomizer set bytes = record { is_met = length bytes == 0 || length bytes == (params set).n; refusal = BadRandomizerLength }

abbrev pub output : ℕ → List ℕ → Rule
output len out = has_len out len BadOutputLength

abbrev pub context : List ℕ → Rule
context ctx = record { is_met = nat_le (length ctx) 255; refusal = ContextTooLong }

abbrev pub begun : ParamSet → List ℕ → Rule
begun set start = has_len start (start_len (params set)) BadStartLength

abbrev pub lengths_rules : ℕ → List Rule
lengths_rules set = in_set set (λ _. [])

abbrev pub keygen_rules : ℕ → List ℕ → List ℕ → List ℕ → List ℕ → List Rule
keygen_rules set sk_seed sk_prf pk_seed out =
    in_set set (λ s. seed s sk_seed ∷ seed s sk_prf ∷ seed s pk_seed ∷ output (sk_len (params s)) out ∷ [])

abbrev pub public_rules : ℕ → List ℕ → List ℕ → List Rule
public_rules set sk out = in_set set (λ s. secret s sk ∷ output (pk_len (params s)) out ∷ [])

abbrev pub check_rules : ℕ → List ℕ → List Rule
check_rules set sk = in_set set (λ s. secret s sk ∷ [])

abbrev pub sign_rules : ℕ → List ℕ → List ℕ → List ℕ → List ℕ → List Rule
sign_rules set sk ctx random out =
    in_set set (λ s. secret s sk ∷ randomizer s random ∷ output (sig_len (params s)) out ∷ context ctx ∷ [])

abbrev pub hash_sign_rules : ℕ → ℕ → List ℕ → List ℕ → List ℕ → List ℕ → List Rule
hash_sign_rules set function sk ctx random out = in_set set (λ s. with_function function (λ _.
    secret s sk ∷ randomizer s random ∷ output (sig_len (params s)) out ∷ context ctx ∷ []))

abbrev pub hash_sign_digest_rules : ℕ → ℕ → List ℕ → List ℕ → List ℕ → List ℕ → List ℕ → List Rule
hash_sign_digest_rules set function sk bytes ctx random out = in_set set (λ s. with_function function (λ f.
    secret s sk ∷ digest f bytes ∷ randomizer s random ∷ output (sig_len (params s)) out ∷ context ctx ∷ []))

abbrev pub sign_internal_rules : ℕ → List ℕ → List ℕ → List ℕ → List Rule
sign_internal_rules set sk random out =
    in_set set (λ s. secret s sk ∷ randomizer s random ∷ output (sig_len (params s)) out ∷ [])

-- the rooms of a call that signs two times: scratch for two signatures, and the output
abbrev pub rooms : ParamSet → List ℕ → List ℕ → List Rule → List Rule
rooms set scratch out rules = output (2 * sig_len (params set)) scratch ∷ output (sig_len (params set)) out ∷ rules

abbrev pub sign_twice_rules : ℕ → List ℕ → List ℕ → List ℕ → List ℕ → List ℕ → List Rule
sign_twice_rules set sk ctx random scratch out =
    in_set set (λ s. secret s sk ∷ randomizer s random ∷ rooms s scratch out (context ctx ∷ []))

abbrev pub hash_sign_twice_rules : ℕ → ℕ → List ℕ → List ℕ → List ℕ → List ℕ → List ℕ → List Rule
hash_sign_twice_rules set function sk ctx random scratch out = in_set set (λ s. with_function function (λ _.
    secret s sk ∷ randomizer s random ∷ rooms s scratch out (context ctx ∷ [])))

abbrev pub hash_sign_digest_twice_rules : ℕ → ℕ → List ℕ → List ℕ → List ℕ → List ℕ → List ℕ → List ℕ → List Rule
hash_sign_digest_twice_rules set function sk bytes ctx random scratch out = in_set set (λ s. with_function function (λ f.
    secret s sk ∷ digest f bytes ∷ randomizer s random ∷ rooms s scratch out (context ctx ∷ [])))

-- a context of over 255 bytes or a signature of another length is invalid, and no refusal
abbrev pub verify_rules : ℕ → List ℕ → List Rule
verify_rules set pk = in_set set (λ s. public s pk ∷ [])

-- 36 bytes are those of the lines but for the digits: the first line, the set's name, and three line feeds
abbrev pub key_write_rules : ℕ → ℕ → List ℕ → List ℕ → List Rule
key_write_rules set kind key out = in_set set (λ s. numbered (kind_numbered kind) NoSuchKind (λ k.
    has_len key (key_len k (params s)) BadLength
    ∷ record { is_met = nat_lt (36 + 2 * key_len k (params s)) (length out); refusal = BadOutputLength } ∷ []))

abbrev pub der_write_rules : ℕ → ℕ → List ℕ → List ℕ → List Rule
der_write_rules set kind key out = in_set set (λ s. numbered (kind_numbered kind) NoSuchKind (λ k.
    has_len key (key_len k (params s)) BadLength
    ∷ record { is_met = nat_le (der_len k (params s)) (length out); refusal = BadOutputLength } ∷ []))

abbrev pub pem_write_rules : ℕ → ℕ → List ℕ → List ℕ → List Rule
pem_write_rules set kind key out = in_set set (λ s. numbered (kind_numbered kind) NoSuchKind (λ k.
    has_len key (key_len k (params s)) BadLength
    ∷ record { is_met = nat_lt (pem_len k (params s)) (length out); refusal = BadOutputLength } ∷ []))

abbrev pub self_test_rules : ℕ → List ℕ → List Rule
self_test_rules set scratch = in_set set (λ s. output (sig_len (params s)) scratch ∷ [])

-- what is wrong with an item is in its verdict, and no refusal
abbrev pub verify_many_rules : ℕ → List Signed → List ℕ → List Rule
verify_many_rules set items verdicts = in_set set (λ _. output (length items) verdicts ∷ [])

abbrev pub hash_verify_rules : ℕ → ℕ → List ℕ → List Rule
hash_verify_rules set function pk = in_set set (λ s. with_function function (λ _. public s pk ∷ []))

abbrev pub hash_verify_digest_rules : ℕ → ℕ → List ℕ → List ℕ → List Rule
hash_verify_digest_rules set function pk bytes =
    in_set set (λ s. with_function function (λ f. public s pk ∷ digest f bytes ∷ []))

abbrev pub verify_front_rules : ℕ → List ℕ → List ℕ → List ℕ → List Rule
verify_front_rules set pk ctx front =
    in_set set (λ s. public s pk ∷ output (front_len (params s) ctx) front ∷ [])

abbrev pub verify_hashed_rules : ℕ → List ℕ → List ℕ → List Rule
verify_hashed_rules set pk bytes = in_set set (λ s. public s pk ∷ inner_hash s bytes ∷ [])

abbrev pub name_rules : ℕ → List ℕ → List Rule
name_rules asked out = numbered (refusal_numbered asked) NoSuchRefusal (λ refusal.
    record { is_met = nat_le (length (name refusal) + 1) (length out); refusal = BadOutputLength } ∷ [])

abbrev pub sign_jobs_rules : ℕ → ℕ → ℕ → List Rule
sign_jobs_rules set xmss fors = cut_in set xmss fors (λ _. [])

abbrev pub answer_rules : ℕ → ℕ → ℕ → ℕ → List Rule
answer_rules set xmss fors job = cut_in set xmss fors (λ c. below job (jobs c) ∷ [])

abbrev pub sign_start_rules : ℕ → List ℕ → List ℕ → List ℕ → List ℕ → List Rule
sign_start_rules set sk ctx random out =
    in_set set (λ s. secret s sk ∷ randomizer s random ∷ output (start_len (params s)) out ∷ context ctx ∷ [])

abbrev pub hash_sign_start_rules : ℕ → ℕ → List ℕ → List ℕ → List ℕ → List ℕ → List Rule
hash_sign_start_rules set function sk ctx random out = in_set set (λ s. with_function function (λ _.
    secret s sk ∷ randomizer s random ∷ output (start_len (params s)) out ∷ context ctx ∷ []))

-- whether the start has its tag is checked after these
abbrev pub sign_job_rules : ℕ → ℕ → ℕ → List ℕ → List ℕ → ℕ → List ℕ → List Rule
sign_job_rules set xmss fors sk start job out = cut_in set xmss fors (λ c.
    below job (jobs c) ∷ secret c.set sk ∷ begun c.set start ∷ output (len_of c job) out ∷ [])

-- whether the start has its tag, and then whether the answers fit together, is checked after these
abbrev pub sign_join_rules : ℕ → ℕ → ℕ → List ℕ → List ℕ → List ℕ → List ℕ → List Rule
sign_join_rules set xmss fors sk start answers out = cut_in set xmss fors (λ c.
    secret c.set sk ∷ begun c.set start ∷ output (sig_len (params c.set)) out
    ∷ has_len answers (answers_len c) BadAnswersLength ∷ [])

abbrev pub keygen_jobs_rules : ℕ → ℕ → List Rule
keygen_jobs_rules set xmss = cut_in set xmss 0 (λ _. [])

abbrev pub keygen_job_rules : ℕ → ℕ → List ℕ → List ℕ → List ℕ → ℕ → List ℕ → List Rule
keygen_job_rules set xmss sk_seed sk_prf pk_seed job out = cut_in set xmss 0 (λ c.
    below job (key_jobs c) ∷ seed c.set sk_seed ∷ seed c.set sk_prf ∷ seed c.set pk_seed
    ∷ output (2 * (params c.set).n) out ∷ [])

-- whether each node has its tag is checked after these
abbrev pub keygen_join_rules : ℕ → ℕ → List ℕ → List ℕ → List ℕ → List ℕ → List ℕ → List Rule
keygen_join_rules set xmss sk_seed sk_prf pk_seed answers out = cut_in set xmss 0 (λ c.
    seed c.set sk_seed ∷ seed c.set sk_prf ∷ seed c.set pk_seed ∷ output (sk_len (params c.set)) out
    ∷ has_len answers (key_jobs c * (2 * (params c.set).n)) BadAnswersLength ∷ [])
