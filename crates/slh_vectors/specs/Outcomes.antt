-- The outcome of a test, by FIPS 205.
use Rattle.std.specs.Prelude.{◌≡◌, ◌↔◌, ◌≤◌, ⊤, ℕ, List, [], ◌∷◌, length, IsTrue}
use Rattle.slh_core.specs.Keys.{Key, generated_key, pk_seed, public_of}
use Rattle.slh_core.specs.Messages.{message_in_form}
use Rattle.slh_core.specs.Signatures.{IsValid, signature}
use Rattle.slh_vectors.specs.Cases.{Case, InputCase, KeygenCase, SignCase, VerifyCase, keygen, sign, verify}
use Rattle.slh_vectors.specs.declared.outcome.Outcome.{Outcome}
use Rattle.slh_vectors.specs.declared.outcome.Outcome.TheVariants.{Pass}
use Rattle.slh_vectors.specs.declared.test.Interface.{Interface}
use Rattle.slh_vectors.specs.declared.test.Interface.TheVariants.{Internal, External}

-- M' of a form, a context and a message (Algorithms 22 and 23)
abbrev pub message_in : Interface → List ℕ → List ℕ → List ℕ
message_in Internal context message = message
message_in (External form) context message = message_in_form form context message

-- there is an M' of the form and the context: a context of over 255 bytes has none
abbrev pub HasMessage : Interface → List ℕ → Type 0
HasMessage Internal context = ⊤
HasMessage (External form) context = length context ≤ 255

abbrev pub message_of : InputCase → List ℕ
message_of i = message_in i.form i.context i.message

-- opt_rand: the random bytes of a test, or PK.seed where it has none (Algorithm 19, line 2)
abbrev pub opt_rand_of : List ℕ → List ℕ → List ℕ
opt_rand_of [] seed = seed
opt_rand_of (b ∷ bytes) seed = b ∷ bytes

-- both keys are those of the seeds (Algorithm 18)
abbrev pub IsGenerated : KeygenCase → Key → Type 0
IsGenerated t key = (t.sk ≡ key.bytes) × (t.pk ≡ (public_of key).bytes)

abbrev pub KeygenPasses : KeygenCase → Type 0
KeygenPasses t = IsGenerated t (generated_key t.set t.seeds.sk_seed t.seeds.sk_prf t.seeds.pk_seed)

-- the message is signed, with exactly the signature of the test (Algorithms 19, 22 and 23)
abbrev pub IsSigned : SignCase → Key → Type 0
IsSigned t sk = HasMessage t.input.form t.input.context
    × (t.signature ≡ signature sk (message_of t.input) (opt_rand_of t.random (pk_seed (public_of sk))))

abbrev pub SignPasses : SignCase → Type 0
SignPasses t = IsSigned t (record { set = t.set; bytes = t.sk })

-- the signature is valid for the message (Algorithms 20, 24 and 25)
abbrev pub IsValidFor : InputCase → Key → List ℕ → Type 0
IsValidFor i pk sig = HasMessage i.form i.context × IsValid pk (message_of i) sig

-- and that is the test's value
abbrev pub VerifyPasses : VerifyCase → Type 0
VerifyPasses t = IsTrue t.valid ↔ IsValidFor t.input (record { set = t.set; bytes = t.pk }) t.signature

abbrev pub Passes : Case → Type 0
Passes (keygen t) = KeygenPasses t
Passes (sign t) = SignPasses t
Passes (verify t) = VerifyPasses t

abbrev pub IsOutcome : Case → Outcome → Type 0
IsOutcome c o = (o ≡ Pass) ↔ Passes c

-- one outcome for each test, in their order
abbrev pub AreOutcomes : List Case → List Outcome → Type 0
AreOutcomes [] [] = ⊤
AreOutcomes (c ∷ cs) (o ∷ os) = IsOutcome c o × AreOutcomes cs os
AreOutcomes [] (o ∷ os) = ⊥
AreOutcomes (c ∷ cs) [] = ⊥
