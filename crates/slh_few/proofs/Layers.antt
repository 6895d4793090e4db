-- The places of the layers.
use Rattle.std.proofs.Common.{◌≡◌, ℕ, zero, suc, ◌+◌, ◌*◌, ◌/◌, ◌^◌, ◌<◌, refl, ap, ◌∙◌, arith, add-one}
use Rattle.std.proofs.lemmas.Nat.{pow_pos, shr-shr}
use Rattle.std.proofs.Math.Nat.{mod-lt}
use Rattle.slh_params.specs.Params.{Params}
use Rattle.slh_few.specs.Hypertree.{layer_place, place_above}
use Rattle.slh_few.specs.Xmss.{place}

-- the place at layer 0
pub layer_place-start : (p : Params) (t i : ℕ) → place 0 t i ≡ layer_place p t i 0
unfolding layer_place
layer_place-start p t i = refl

-- the place one layer up
pub layer_place-more : (p : Params) (t i l : ℕ) → place_above p (layer_place p t i l) (l + 1) ≡ layer_place p t i (l + 1)
unfolding layer_place
layer_place-more p t i l = rw (add-one l) refl

-- a place's layer
pub layer_place-layer : (p : Params) (t i l : ℕ) → (layer_place p t i l).layer ≡ l
unfolding layer_place
layer_place-layer p t i zero = refl
layer_place-layer p t i (suc l) = refl

-- a place's leaf is one of its tree
pub layer_place-pair : (p : Params) (t i l : ℕ) → i < 2 ^ p.hp → (layer_place p t i l).pair < 2 ^ p.hp
unfolding layer_place
layer_place-pair p t i zero h = h
layer_place-pair p t i (suc l) h = mod-lt ((layer_place p t i l).tree) (pow_pos p.hp)

-- a place's tree, by one division
pub layer_place-tree : (p : Params) (t i l : ℕ) → (layer_place p t i l).tree ≡ t / 2 ^ (p.hp * l)
unfolding layer_place
layer_place-tree p t i zero = let z : p.hp * 0 ≡ 0 = omega arith in rw z (omega arith)
layer_place-tree p t i (suc l) =
    let e : p.hp * l + p.hp ≡ p.hp * suc l = omega arith in
    ap (λ k. k / 2 ^ p.hp) (layer_place-tree p t i l) ∙ shr-shr t (p.hp * l) p.hp ∙ ap (λ k. t / 2 ^ k) e
