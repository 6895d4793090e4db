-- Verdicts on many signatures in one call: ours, over FIPS 205, Algorithm 24.
use Rattle.std.specs.Prelude.{◌≡◌, ◌≢◌, ◌↔◌, ℕ, ◌==◌, ◌<◌, ◌≤◌, if◌then◌else◌, Bool, IsTrue, List, [], ◌∷◌, length, slice_index_or}
use Rattle.slh_params.specs.Params.{pk_len}
use Rattle.slh_params.specs.ParamSet.{params}
use Rattle.slh_params.specs.declared.param_set.ParamSet.{ParamSet}
use Rattle.slh_core.specs.Messages.{bytes_of, pure_message}
use Rattle.slh_core.specs.Signatures.{IsValid}
use Rattle.slh_c.specs.Keys.{key}
use Rattle.slh_c.specs.Numbers.{InSet}
use Rattle.slh_c.specs.Rules.{first_refusal, verify_rules}
use Rattle.slh_c.specs.declared.many.Prepared.{Prepared}
use Rattle.slh_c.specs.declared.many.Signed.{Signed}

-- the item's key is one of this set, and its signature is valid for its message under its context
abbrev pub IsSigned : ParamSet → Signed → Type 0
IsSigned s item = (length item.pk.now ≡ pk_len (params s)) × (length item.ctx.now ≤ 255)
    × IsValid (key s item.pk.now) (pure_message item.ctx.now item.msg.now) item.sig.now

-- so is each of the items
abbrev pub AreSigned : ParamSet → List Signed → Type 0
AreSigned s items = (j : ℕ) (item : Signed) → j < length items → IsSigned s (slice_index_or items j item)

-- the verdict is what `slh_verify` returns for the item: these are its clauses
abbrev pub IsVerdict : ℕ → Signed → ℕ → Type 0
IsVerdict set item verdict = ((verdict ≡ 0) ↔ InSet set (λ s. IsSigned s item))
    × (first_refusal (verify_rules set item.pk.now) ≢ 0 → verdict ≡ first_refusal (verify_rules set item.pk.now))
    × (first_refusal (verify_rules set item.pk.now) ≡ 0 → verdict ≢ 0 → verdict ≡ 30)

-- so is each of the verdicts before a place on the item in its place
abbrev pub AreVerdictsTo : ℕ → ℕ → List Signed → List ℕ → Type 0
AreVerdictsTo end set items verdicts = (j : ℕ) (item : Signed) (verdict : ℕ) → j < end
    → IsVerdict set (slice_index_or items j item) (slice_index_or verdicts j verdict)

-- so is each of the verdicts
abbrev pub AreVerdicts : ℕ → List Signed → List ℕ → Type 0
AreVerdicts set items verdicts = AreVerdictsTo (length items) set items verdicts

-- the first verdict that is not 0, or 0 if all are
abbrev pub first_fault : List ℕ → ℕ
first_fault [] = 0
first_fault (verdict ∷ verdicts) = if verdict == 0 then first_fault verdicts else verdict

-- the number of a verdict on a key that is not refused
abbrev pub number_of : Bool → ℕ
number_of valid = if valid then 0 else 30

-- the item's key is of the set's length, and it is said whether the item is valid
abbrev pub IsJudged : ParamSet → Signed → Bool → Type 0
IsJudged s item valid = (length item.pk.now ≡ pk_len (params s)) × (IsTrue valid ↔ IsSigned s item)

-- the signature is valid for M'
abbrev pub IsPreparedValid : Prepared → Type 0
IsPreparedValid x = IsValid x.pk (bytes_of x.message) x.sig.now

-- the item's key is of the set's length, and the item is valid exactly if this is
abbrev pub IsPreparedFor : ParamSet → Signed → Prepared → Type 0
IsPreparedFor s item x = (length item.pk.now ≡ pk_len (params s)) × (IsPreparedValid x ↔ IsSigned s item)
