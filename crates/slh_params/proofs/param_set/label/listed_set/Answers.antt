-- Each number of a label is read in turn.
use Rattle.std.proofs.Common.{ℕ, List, ◌∷◌, [], ap, ◌∙◌, lit<, arith, refl}
use Rattle.slh_params.specs.ParamSet.{params}
use Rattle.slh_params.proofs.Bounds.{n_high, lg_w_high, hp_high, d_high, a_high, k_high}
use Rattle.slh_params.proofs.Reading.{at_front, behind_n, behind_lg_w, behind_hp, behind_d, behind_a, listed_grouped, same_set}
use Rattle.slh_params.proofs.param_set.label.listed_set.Goals as goal

pub returns : goal.returns
returns c = λ set text.
    let p = params set in
    let n = c.number-n.ensures p.n (behind_n p)
    (at_front _ _ 58 p.n (omega (arith, n_high set)) (lit< tt) (text ∙ ap (λ (t : List ℕ). 58 ∷ t) (listed_grouped p))) in
    let lg_w = c.number-lg_w.ensures p.lg_w (behind_lg_w p) (at_front _ _ 44 p.lg_w (omega (arith, lg_w_high set)) (lit< tt) n.1) in
    let hp = c.number-hp.ensures p.hp (behind_hp p) (at_front _ _ 44 p.hp (omega (arith, hp_high set)) (lit< tt) lg_w.1) in
    let d = c.number-d.ensures p.d (behind_d p) (at_front _ _ 44 p.d (omega (arith, d_high set)) (lit< tt) hp.1) in
    let a = c.number-a.ensures p.a (behind_a p) (at_front _ _ 44 p.a (omega (arith, a_high set)) (lit< tt) d.1) in
    let k = c.number-k.ensures p.k [] (at_front _ _ 44 p.k (omega (arith, k_high set)) (lit< tt) a.1) in
    c.ok.ensures.value ∙ same_set c.custom.result set _ (rw (n.0, lg_w.0, hp.0, d.0, a.0, k.0) refl) c.custom.ensures.made c.custom.ensures.valid
