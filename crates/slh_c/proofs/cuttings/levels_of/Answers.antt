-- Levels are made exactly where their four bounds hold, and two of the same numbers are equal.
use Rattle.std.proofs.Common.{◌≡◌, ◌≤◌, ◌↔◌, refl, subst, ap, ◌∙◌, ℕ, Bool, true, false, Option, Some, None}
use Rattle.std.specs.Prelude.{nat_le, IsSome, IfSome}
use Rattle.std.proofs.lemmas.Bool.{le-leb, leb-true, and_from, and_parts, false≢true}
use Rattle.std.proofs.Math.Bridge.{le_prop}
use Rattle.slh_params.specs.ParamSet.{params}
use Rattle.slh_params.specs.declared.param_set.ParamSet.{ParamSet}
use Rattle.slh_jobs.specs.declared.levels.Levels.{Levels}
use Rattle.slh_c.specs.Cuttings.{are_valid, levels_where, levels_of}
use Rattle.slh_c.proofs.cuttings.levels_of.Goals as goal

abbrev Fit : ParamSet → ℕ → ℕ → Type 0
Fit set xmss fors = (xmss ≤ (params set).hp) × (xmss ≤ 8) × (fors ≤ (params set).a) × (fors ≤ 8)

fit : (set : ParamSet) (xmss fors : ℕ) → Fit set xmss fors → are_valid set xmss fors ≡ true
fit set xmss fors (a, b, c, d) =
    and_from _ _ (le-leb xmss (params set).hp a) (and_from _ _ (le-leb xmss 8 b) (and_from _ _ (le-leb fors (params set).a c) (le-leb fors 8 d)))

fitting : (set : ParamSet) (xmss fors : ℕ) → are_valid set xmss fors ≡ true → Fit set xmss fors
fitting set xmss fors valid =
    let first = and_parts (nat_le xmss (params set).hp) _ valid in
    let second = and_parts (nat_le xmss 8) _ first.1 in
    let third = and_parts (nat_le fors (params set).a) (nat_le fors 8) second.1 in
    (leb-true xmss (params set).hp first.0, leb-true xmss 8 second.0, leb-true fors (params set).a third.0, leb-true fors 8 third.1)

abbrev made_of : (set : ParamSet) (xmss fors : ℕ) → xmss ≤ (params set).hp → xmss ≤ 8 → fors ≤ (params set).a → fors ≤ 8 → Levels
made_of set xmss fors a b c d = record { set = set; xmss = xmss; fors = fors; xmss_high = a; xmss_few = b; fors_high = c; fors_few = d }

-- levels don't depend on the proofs of their bounds
alike : (it : Levels) (a : it.xmss ≤ (params it.set).hp) (b : it.xmss ≤ 8) (c : it.fors ≤ (params it.set).a) (d : it.fors ≤ 8)
    → Some it ≡ Some (made_of it.set it.xmss it.fors a b c d)
alike it a b c d =
    ap (λ v. Some (made_of it.set it.xmss it.fors v it.xmss_few it.fors_high it.fors_few)) (le_prop it.xmss_high a)
    ∙ ap (λ v. Some (made_of it.set it.xmss it.fors a v it.fors_high it.fors_few)) (le_prop it.xmss_few b)
    ∙ ap (λ v. Some (made_of it.set it.xmss it.fors a b v it.fors_few)) (le_prop it.fors_high c)
    ∙ ap (λ v. Some (made_of it.set it.xmss it.fors a b c v)) (le_prop it.fors_few d)

-- levels are those of their own numbers
own : (it : Levels) (valid : Bool) (e : are_valid it.set it.xmss it.fors ≡ valid) → valid ≡ true → Some it ≡ levels_where it.set it.xmss it.fors valid e
unfolding levels_where
own it true e t = alike it _ _ _ _
own it false e t = absurd (false≢true t)

of_equal : (it : Levels) (set : ParamSet) (xmss fors : ℕ) → it.set ≡ set → it.xmss ≡ xmss → it.fors ≡ fors
    → (valid : Bool) (e : are_valid set xmss fors ≡ valid) → valid ≡ true → Some it ≡ levels_where set xmss fors valid e
of_equal it set xmss fors a b c =
    subst (λ f. (valid : Bool) (e : are_valid set xmss f ≡ valid) → valid ≡ true → Some it ≡ levels_where set xmss f valid e) c
    (subst (λ x. (valid : Bool) (e : are_valid set x it.fors ≡ valid) → valid ≡ true → Some it ≡ levels_where set x it.fors valid e) b
    (subst (λ s. (valid : Bool) (e : are_valid s it.xmss it.fors ≡ valid) → valid ≡ true → Some it ≡ levels_where s it.xmss it.fors valid e) a
    (own it)))

none : (set : ParamSet) (xmss fors : ℕ) (valid : Bool) (e : are_valid set xmss fors ≡ valid) → (valid ≡ true → ⊥) → None ≡ levels_where set xmss fors valid e
unfolding levels_where
none set xmss fors true e t = absurd (t refl)
none set xmss fors false e t = refl

made : (o : Option Levels) (set : ParamSet) (xmss fors : ℕ) → (IsSome o ↔ Fit set xmss fors)
    → IfSome o (λ it. it.set ≡ set) → IfSome o (λ it. it.xmss ≡ xmss) → IfSome o (λ it. it.fors ≡ fors)
    → o ≡ levels_of set xmss fors
unfolding levels_of
made (Some it) set xmss fors some a b c = of_equal it set xmss fors a b c _ refl (fit set xmss fors (some.0 refl))
made None set xmss fors some a b c = none set xmss fors _ refl (λ t. false≢true (some.1 (fitting set xmss fors t)))

pub returns-clause-value : goal.returns-clause-value
returns-clause-value c = made c.new.result c.args.set c.args.xmss c.args.fors c.new.ensures.some c.new.ensures.set c.new.ensures.xmss c.new.ensures.fors
