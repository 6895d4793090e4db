-- Two sets that compare as equal are one.
use Rattle.std.proofs.Common.{◌≡◌, Bool, true, false, ◌&&◌, eqb, eqb-true, not, refl}
use Rattle.slh_params.specs.ParamSet.{params}
use Rattle.slh_params.specs.declared.param_set.ParamSet.{ParamSet}
use Rattle.slh_params.proofs.Same.{params_same}

true_left : (b c : Bool) → (b && c) ≡ true → b ≡ true
true_left true c h = refl
true_left false c h = h

true_right : (b c : Bool) → (b && c) ≡ true → c ≡ true
true_right true c h = h
true_right false c h = absurd cc

not_false : (b : Bool) → false ≡ not b → b ≡ true
not_false true h = refl
not_false false h = h

pub equal_sets : (s t : ParamSet)
    → false ≡ not (eqb s.n t.n && (eqb s.lg_w t.lg_w && (eqb s.hp t.hp && (eqb s.d t.d && (eqb s.a t.a && eqb s.k t.k)))))
    → s ≡ t
unfolding params
equal_sets s t h =
    let all = not_false _ h in
    let from_w = true_right _ _ all in
    let from_h = true_right _ _ from_w in
    let from_d = true_right _ _ from_h in
    let from_a = true_right _ _ from_d in
    let n = eqb-true _ _ (true_left _ _ all) in
    let lg_w = eqb-true _ _ (true_left _ _ from_w) in
    let hp = eqb-true _ _ (true_left _ _ from_h) in
    let d = eqb-true _ _ (true_left _ _ from_d) in
    let a = eqb-true _ _ (true_left _ _ from_a) in
    let k = eqb-true _ _ (true_right _ _ from_a) in
    params_same s t (λ i. record { n = n i; lg_w = lg_w i; hp = hp i; d = d i; a = a i; k = k i })
