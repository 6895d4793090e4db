-- Sets with the same numbers are the same set: that the numbers are valid has one proof.
use Rattle.std.proofs.Common.{◌≡◌, ℕ, Bool, true, false, ◌&&◌, ◌==◌, IsTrue, refl, arith, ap}
use Rattle.std.proofs.Math.Path.{subst}
use Rattle.std.proofs.Math.Bool.{Bool-set}
use Rattle.slh_params.specs.Params.{Params, numbers}
use Rattle.slh_params.specs.Valid.{IsValidRecord}
use Rattle.slh_params.specs.declared.param_set.ParamSet.{ParamSet}
use Rattle.slh_params.specs.ParamSet.{is, params}

-- the set of six numbers
abbrev set_of : (n lg_w hp d a k : ℕ) → IsValidRecord (numbers n lg_w hp d a k) → ParamSet
set_of n lg_w hp d a k v = record { n = n; lg_w = lg_w; hp = hp; d = d; a = a; k = k; valid = v }

same_numbers : (s t : ParamSet) → s.n ≡ t.n → s.lg_w ≡ t.lg_w → s.hp ≡ t.hp → s.d ≡ t.d → s.a ≡ t.a → s.k ≡ t.k → s ≡ t
same_numbers s t en el eh ed ea ek = step6 t.valid
  where
    Same : ℕ → ℕ → ℕ → ℕ → ℕ → ℕ → Type 0
    Same n l h d a k = (v : IsValidRecord (numbers n l h d a k)) → set_of s.n s.lg_w s.hp s.d s.a s.k s.valid ≡ set_of n l h d a k v

    step0 : Same s.n s.lg_w s.hp s.d s.a s.k
    step0 v = ap (set_of s.n s.lg_w s.hp s.d s.a s.k) (Bool-set _ _ s.valid v)

    step1 : Same t.n s.lg_w s.hp s.d s.a s.k
    step1 = subst (λ x. Same x s.lg_w s.hp s.d s.a s.k) en step0

    step2 : Same t.n t.lg_w s.hp s.d s.a s.k
    step2 = subst (λ x. Same t.n x s.hp s.d s.a s.k) el step1

    step3 : Same t.n t.lg_w t.hp s.d s.a s.k
    step3 = subst (λ x. Same t.n t.lg_w x s.d s.a s.k) eh step2

    step4 : Same t.n t.lg_w t.hp t.d s.a s.k
    step4 = subst (λ x. Same t.n t.lg_w t.hp x s.a s.k) ed step3

    step5 : Same t.n t.lg_w t.hp t.d t.a s.k
    step5 = subst (λ x. Same t.n t.lg_w t.hp t.d x s.k) ea step4

    step6 : Same t.n t.lg_w t.hp t.d t.a t.k
    step6 = subst (λ x. Same t.n t.lg_w t.hp t.d t.a x) ek step5

and_left : (b c : Bool) → IsTrue (b && c) → IsTrue b
and_left true c h = refl
and_left false c h = h

and_right : (b c : Bool) → IsTrue (b && c) → IsTrue c
and_right true c h = h
and_right false c h = absurd cc

equal : (x y : ℕ) → IsTrue (x == y) → x ≡ y
equal x y h = grind (arith, h)

pub is-same : (s t : ParamSet) → IsTrue (is s t) → s ≡ t
unfolding is
is-same s t e =
    let to_a = and_left _ _ e in
    let to_d = and_left _ _ to_a in
    let to_hp = and_left _ _ to_d in
    let to_lg_w = and_left _ _ to_hp in
    same_numbers s t (equal _ _ (and_left _ _ to_lg_w)) (equal _ _ (and_right _ _ to_lg_w)) (equal _ _ (and_right _ _ to_hp))
    (equal _ _ (and_right _ _ to_d)) (equal _ _ (and_right _ _ to_a)) (equal _ _ (and_right _ _ e))

eqb-self : (x : ℕ) → (x == x) ≡ true
eqb-self x = grind arith

pub same-is : (s : ParamSet) → IsTrue (is s s)
unfolding is
same-is s = rw (eqb-self s.n, eqb-self s.lg_w, eqb-self s.hp, eqb-self s.d, eqb-self s.a, eqb-self s.k) refl

-- sets with the same record
pub params_same : (s t : ParamSet) → params s ≡ params t → s ≡ t
unfolding params
params_same s t e =
    same_numbers s t (ap (λ (p : Params). p.n) e) (ap (λ (p : Params). p.lg_w) e) (ap (λ (p : Params). p.hp) e)
    (ap (λ (p : Params). p.d) e) (ap (λ (p : Params). p.a) e) (ap (λ (p : Params). p.k) e)
