-- Verdicts on many items: by eight, one by one, and the first that is not 0.
use Rattle.std.proofs.Common.{◌≡◌, ◌≢◌, ◌↔◌, ◌∙◌, ℕ, zero, suc, ◌+◌, ◌-◌, ◌==◌, ◌<◌, ◌≤◌, if◌then◌else◌, Bool, true, false, IsTrue, List, [], ◌∷◌, length, get_or, set, Option, None, Some, IsSomeAnd, refl, sym, subst, ap, inl, inr, arith}
use Rattle.std.proofs.lemmas.Bool.{cases_eq, cases_lt, false≢true}
use Rattle.std.proofs.lemmas.Bool.Decides.{nat_tests}
use Rattle.std.proofs.lemmas.List.{get_or-set_same, get_or-set_other, get_or_default}
use Rattle.slh_params.specs.Params.{pk_len}
use Rattle.slh_params.specs.ParamSet.{params}
use Rattle.slh_params.specs.declared.param_set.ParamSet.{ParamSet}
use Rattle.slh_core.specs.Keys.{Key}
use Rattle.slh_core.specs.Messages.{pure_message}
use Rattle.slh_core.specs.Signatures.{IsValid}
use Rattle.slh_c.specs.Keys.{key}
use Rattle.slh_c.specs.Many.{AreSigned, AreVerdicts, AreVerdictsTo, IsJudged, IsPreparedFor, IsPreparedValid, IsSigned, IsVerdict, first_fault, number_of}
use Rattle.slh_c.specs.Numbers.{set_numbered}
use Rattle.slh_c.specs.Rules.{first_refusal, numbered, output, public}
use Rattle.slh_c.specs.declared.many.Prepared.{Prepared}
use Rattle.slh_c.specs.declared.many.Signed.{Signed}
use Rattle.slh_c.specs.declared.refusal.Refusal.TheVariants.{NoSuchSet}

-- a signature is valid for M' under the key that was read exactly if the item is valid
pub prepared : (s : ParamSet) (item : Signed) (pk : Key) (message sig : List ℕ)
    → length item.pk.now ≡ pk_len (params s) → pk ≡ key s item.pk.now → length item.ctx.now ≤ 255
    → message ≡ pure_message item.ctx.now item.msg.now → sig ≡ item.sig.now
    → (IsValid pk message sig ↔ IsSigned s item)
prepared s item pk message sig len is short bytes same =
    subst (λ (x : List ℕ). IsValid pk message x ↔ IsSigned s item) (sym same)
    (subst (λ (m : List ℕ). IsValid pk m item.sig.now ↔ IsSigned s item) (sym bytes)
    (subst (λ (k : Key). IsValid k (pure_message item.ctx.now item.msg.now) item.sig.now ↔ IsSigned s item) (sym is)
    (λ valid. (len, short, valid), λ signed. signed.2)))

-- a verdict on what was made of the item at a place is one on that item
pub judged_at : (s : ParamSet) (items : List Signed) (i : ℕ) (d item : Signed) (made : Prepared) (valid : Bool) → i < length items
    → (IsTrue valid ↔ IsPreparedValid made) → IsPreparedFor s (get_or items i d) made → IsJudged s (get_or items i item) valid
judged_at s items i d item made valid inside verdict for =
    subst (λ (x : Signed). IsJudged s x valid) (get_or_default items i d item inside)
    (for.0, (λ v. for.1.0 (verdict.0 v), λ signed. verdict.1 (for.1.1 signed)))

-- the clauses of a verdict, by the set of the number
abbrev IsVerdictIn : Option ParamSet → Signed → ℕ → Type 0
IsVerdictIn o item verdict =
    let refusal = first_refusal (numbered o NoSuchSet (λ s. public s item.pk.now ∷ [])) in
    ((verdict ≡ 0) ↔ IsSomeAnd o (λ s. IsSigned s item)) × (refusal ≢ 0 → verdict ≡ refusal) × (refusal ≡ 0 → verdict ≢ 0 → verdict ≡ 30)

-- a rule that two numbers are equal is met
met : (a b refusal : ℕ) → a ≡ b → (if a == b then 0 else refusal) ≡ 0
met a b refusal e = grind (arith, nat_tests)

in_some : (s : ParamSet) (item : Signed) (valid : Bool) → IsJudged s item valid → IsVerdictIn (Some s) item (number_of valid)
in_some s item true (len, is) =
    ((λ _. is.0 refl, λ _. refl), λ refused. absurd (refused (met (length item.pk.now) (pk_len (params s)) 3 len)), λ _ n. absurd (n refl))
in_some s item false (len, is) = (
  (λ e. absurd (omega (arith, e)), λ signed. absurd (false≢true (is.1 signed))),
  λ refused. absurd (refused (met (length item.pk.now) (pk_len (params s)) 3 len)),
  λ _ _. refl,
)

-- the number of a verdict on an item is what `slh_verify` returns
pub verdict_of : (asked : ℕ) (s : ParamSet) (item : Signed) (valid : Bool) → set_numbered asked ≡ Some s
    → IsJudged s item valid → IsVerdict asked item (number_of valid)
verdict_of asked s item valid e judged = subst (λ (o : Option ParamSet). IsVerdictIn o item (number_of valid)) (sym e) (in_some s item valid judged)

-- eight verdicts more, on the items of a part that begins at this place
pub next_eight : (asked at : ℕ) (items part : List Signed) (old new eight : List ℕ)
    → ((j d : ℕ) → j < at → get_or new j d ≡ get_or old j d)
    → ((k d : ℕ) → k < 8 → get_or new (at + k) d ≡ get_or eight k d)
    → ((k : ℕ) (item : Signed) → k < 8 → get_or part k item ≡ get_or items (at + k) item)
    → ((k d : ℕ) (item : Signed) → k < 8 → IsVerdict asked (get_or part k item) (get_or eight k d))
    → AreVerdictsTo at asked items old → AreVerdictsTo (at + 8) asked items new
next_eight asked at items part old new eight before here there each to = λ j item d l. elim (cases_lt j at) [
  | inl low ↦ subst (λ (v : ℕ). IsVerdict asked (get_or items j item) v) (sym (before j d low)) (to j item d low)
  | inr ge ↦
      let k : ℕ = j - at in
      let is : at + k ≡ j = omega (arith, ge) in
      let few : k < 8 = omega (arith, l, ge) in
      let a : get_or new j d ≡ get_or eight k d = subst (λ (n : ℕ). get_or new n d ≡ get_or eight k d) is (here k d few) in
      let b : get_or part k item ≡ get_or items j item = there k item few ∙ ap (λ (n : ℕ). get_or items n item) is in
      subst (λ (v : ℕ). IsVerdict asked (get_or items j item) v) (sym a)
      (subst (λ (x : Signed). IsVerdict asked x (get_or eight k d)) b (each k d item few))
]

-- one verdict more
pub next_one : (asked at : ℕ) (items : List Signed) (old : List ℕ) (own : Signed) (verdict : ℕ)
    → at < length items → length old ≡ length items → own ≡ get_or items at own → IsVerdict asked own verdict
    → AreVerdictsTo at asked items old → AreVerdictsTo (at + 1) asked items (set old at verdict)
next_one asked at items old own verdict inside len is judged to = λ j item d l. elim (cases_eq j at) [
  | inl same ↦
      let a : get_or (set old at verdict) at d ≡ verdict = get_or-set_same old at verdict d (omega (arith, inside, len)) in
      let b : own ≡ get_or items at item = is ∙ get_or_default items at own item inside in
      subst (λ (n : ℕ). IsVerdict asked (get_or items n item) (get_or (set old at verdict) n d)) (sym same)
      (subst (λ (v : ℕ). IsVerdict asked (get_or items at item) v) (sym a)
      (subst (λ (x : Signed). IsVerdict asked x verdict) b judged))
  | inr other ↦
      let a : get_or (set old at verdict) j d ≡ get_or old j d = get_or-set_other old at j verdict d other in
      subst (λ (v : ℕ). IsVerdict asked (get_or items j item) v) (sym a) (to j item d (omega (arith, l, other)))
]

split : (v rest : ℕ) → (if v == 0 then rest else v) ≡ 0 → (v ≡ 0) × (rest ≡ 0)
split v rest e = (grind (arith, nat_tests), grind (arith, nat_tests))

join : (v rest : ℕ) → v ≡ 0 → rest ≡ 0 → (if v == 0 then rest else v) ≡ 0
join v rest e f = grind (arith, nat_tests)

all_done : (verdicts : List ℕ) → first_fault verdicts ≡ 0 → (j d : ℕ) → j < length verdicts → get_or verdicts j d ≡ 0
all_done [] e j d l = absurd (omega (arith, l))
all_done (v ∷ vs) e zero d l = (split v (first_fault vs) e).0
all_done (v ∷ vs) e (suc j) d l = all_done vs (split v (first_fault vs) e).1 j d (omega (arith, l))

done_all : (verdicts : List ℕ) → ((j : ℕ) → j < length verdicts → get_or verdicts j 0 ≡ 0) → first_fault verdicts ≡ 0
done_all [] h = refl
done_all (v ∷ vs) h = join v (first_fault vs) (h 0 (omega arith)) (done_all vs (λ j l. h (suc j) (omega (arith, l))))

some_item : (items : List Signed) (j : ℕ) → j < length items → Signed
some_item [] j l = absurd (omega (arith, l))
some_item (x ∷ xs) j l = x

-- the first verdict that is not 0 is 0 exactly if all items are valid
pub all_signed : (asked : ℕ) (s : ParamSet) (items : List Signed) (verdicts : List ℕ) → set_numbered asked ≡ Some s
    → length verdicts ≡ length items → AreVerdicts asked items verdicts → ((first_fault verdicts ≡ 0) ↔ AreSigned s items)
all_signed asked s items verdicts e len all = (
  λ done j item l. subst (λ (o : Option ParamSet). IsSomeAnd o (λ s. IsSigned s (get_or items j item))) e
      ((all j item 0 l).0.0 (all_done verdicts done j 0 (omega (arith, l, len)))),
  λ signed. done_all verdicts (λ j l.
      let inside : j < length items = omega (arith, l, len) in
      let item = some_item items j inside in
      (all j item 0 inside).0.1 (subst (λ (o : Option ParamSet). IsSomeAnd o (λ s. IsSigned s (get_or items j item))) (sym e) (signed j item inside))),
)

-- a call whose set and verdicts fit is not refused
pub not_refused : (o : Option ParamSet) (P : ParamSet → Type 0) (verdicts : List ℕ) (n : ℕ) → length verdicts ≡ n → IsSomeAnd o P
    → first_refusal (numbered o NoSuchSet (λ _. output n verdicts ∷ [])) ≡ 0
not_refused None P verdicts n e h = absurd h
not_refused (Some s) P verdicts n e h = met (length verdicts) n 18 e
