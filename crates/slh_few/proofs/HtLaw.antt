-- The root that a hypertree signature gives is that of the top tree.
use Rattle.std.proofs.Common.{◌≡◌, ℕ, zero, suc, ◌+◌, ◌-◌, ◌*◌, ◌^◌, ◌<◌, ◌≤◌, List, ◌++◌, refl, ap, sym, ◌∙◌, arith, add-one}
use Rattle.std.proofs.Math.Nat.{div-eq_of_lt}
use Rattle.slh_params.specs.Params.{Params, h}
use Rattle.slh_params.specs.ParamSet.{params}
use Rattle.slh_params.specs.declared.param_set.ParamSet.{ParamSet}
use Rattle.slh_tree.specs.Tree.{root}
use Rattle.slh_tree.specs.Climb.{path}
use Rattle.slh_few.specs.Chunks.{end_to_end, chunk}
use Rattle.slh_few.specs.Wots.{wots_sig}
use Rattle.slh_few.specs.Xmss.{xmss_tree, xmss_sig, xmss_pk_from_sig, xmss_sig_len}
use Rattle.slh_few.specs.Hypertree.{layer_place, signed_at, layer_sig, ht_sig, root_below, ht_root_from_sig}
use Rattle.slh_few.specs.declared.place.Place.{Place}
use Rattle.slh_few.proofs.Ends.{chunk-end_to_end}
use Rattle.slh_params.proofs.Bounds.{h_below_top}
use Rattle.slh_few.proofs.Sizes.{top_layer}
use Rattle.slh_few.proofs.XmssLaw.{length-xmss_sig, xmss_pk_from_sig-xmss_sig}
use Rattle.slh_few.proofs.Layers.{layer_place-layer, layer_place-pair, layer_place-tree}

-- layer 0 signs the message
pub signed_at-start : (p : Params) (sk pk m : List ℕ) (t i : ℕ) → m ≡ signed_at p sk pk m t i 0
unfolding signed_at
signed_at-start p sk pk m t i = refl

-- the layer's signature and the root that it gives, as a program makes them from a place and a message
pub layer_made : (p : Params) (sk pk m : List ℕ) (t i l : ℕ) (at : Place) (x : List ℕ)
    → at ≡ layer_place p t i l → x ≡ signed_at p sk pk m t i l → xmss_sig p sk pk at x ≡ layer_sig p sk pk m t i l
layer_made p sk pk m t i l at x ea ex = ap (λ a. xmss_sig p sk pk a x) ea ∙ ap (xmss_sig p sk pk (layer_place p t i l)) ex

-- the root that a layer gives is what the next layer signs
pub layer_root : (p : Params) (sk pk m : List ℕ) (t i l : ℕ) (at : Place) (x : List ℕ)
    → at ≡ layer_place p t i l → x ≡ signed_at p sk pk m t i l → xmss_pk_from_sig p pk at x (xmss_sig p sk pk at x) ≡ signed_at p sk pk m t i (l + 1)
unfolding signed_at
layer_root p sk pk m t i l at x ea ex =
    rw (add-one l) (ap (λ a. xmss_pk_from_sig p pk a x (xmss_sig p sk pk a x)) ea
    ∙ ap (λ y. xmss_pk_from_sig p pk (layer_place p t i l) y (xmss_sig p sk pk (layer_place p t i l) y)) ex)

-- above layer 0, a layer signs the root of the tree below it
pub signed_at-root : (s : ParamSet) (sk pk m : List ℕ) (t i l : ℕ) → i < 2 ^ (params s).hp
    → signed_at (params s) sk pk m t i (suc l) ≡ root (xmss_tree (params s) sk pk l (layer_place (params s) t i l).tree)
unfolding signed_at
signed_at-root s sk pk m t i l h =
    let p = params s in
    let at = layer_place p t i l in
    xmss_pk_from_sig-xmss_sig s sk pk at (signed_at p sk pk m t i l) (layer_place-pair p t i l h)
    ∙ ap (λ j. root (xmss_tree p sk pk j at.tree)) (layer_place-layer p t i l)

-- a layer's signature is its WOTS+ signature, then the path of the leaf that signs
pub layer_sig-parts : (p : Params) (sk pk m : List ℕ) (t i l : ℕ)
    → wots_sig p sk pk (layer_place p t i l) (signed_at p sk pk m t i l) ++ path (xmss_tree p sk pk l (layer_place p t i l).tree) (layer_place p t i l).pair
    ≡ layer_sig p sk pk m t i l
unfolding xmss_sig
layer_sig-parts p sk pk m t i l =
    let at = layer_place p t i l in
    ap (λ j. wots_sig p sk pk at (signed_at p sk pk m t i l) ++ path (xmss_tree p sk pk j at.tree) at.pair) (sym (layer_place-layer p t i l))

-- below layer 0 is the message
pub root_below-start : (p : Params) (pk m : List ℕ) (t i : ℕ) (sig : List ℕ) → m ≡ root_below p pk m t i sig 0
unfolding root_below
root_below-start p pk m t i sig = refl

-- one layer more of verifying
pub root_below-more : (p : Params) (pk m : List ℕ) (t i : ℕ) (sig : List ℕ) (l : ℕ) (at : Place) (x : List ℕ)
    → at ≡ layer_place p t i l → x ≡ root_below p pk m t i sig l
    → xmss_pk_from_sig p pk at x (chunk (xmss_sig_len p) sig l) ≡ root_below p pk m t i sig (l + 1)
unfolding root_below
root_below-more p pk m t i sig l at x ea ex =
    rw (add-one l) (ap (λ a. xmss_pk_from_sig p pk a x (chunk (xmss_sig_len p) sig l)) ea
    ∙ ap (λ y. xmss_pk_from_sig p pk (layer_place p t i l) y (chunk (xmss_sig_len p) sig l)) ex)

-- verifying meets at each layer what signing signed there
pub below-signed : (s : ParamSet) (sk pk m : List ℕ) (t i l : ℕ) → l ≤ (params s).d
    → root_below (params s) pk m t i (ht_sig (params s) sk pk m t i) l ≡ signed_at (params s) sk pk m t i l
unfolding root_below signed_at ht_sig
below-signed s sk pk m t i zero h = refl
below-signed s sk pk m t i (suc l) h =
    let p = params s in
    let sig = end_to_end (layer_sig p sk pk m t i) p.d in
    let at = layer_place p t i l in
    let here : chunk (xmss_sig_len p) sig l ≡ layer_sig p sk pk m t i l =
    chunk-end_to_end (layer_sig p sk pk m t i) (xmss_sig_len p) p.d l (omega arith) (λ j q. length-xmss_sig s sk pk _ _) in
    ap (λ xs. xmss_pk_from_sig p pk at (root_below p pk m t i sig l) xs) here
    ∙ ap (λ y. xmss_pk_from_sig p pk at y (layer_sig p sk pk m t i l)) (below-signed s sk pk m t i l (omega arith))

-- the signature's root is that of the top tree
pub ht_root_from_sig-ht_sig : (s : ParamSet) (sk pk m : List ℕ) (t i : ℕ) → i < 2 ^ (params s).hp → t < 2 ^ (h (params s) - (params s).hp)
    → ht_root_from_sig (params s) pk m t i (ht_sig (params s) sk pk m t i) ≡ root (xmss_tree (params s) sk pk ((params s).d - 1) 0)
ht_root_from_sig-ht_sig s sk pk m t i hi ht =
    let p = params s in
    let e = p.d - 1 in
    let at = layer_place p t i e in
    let whole : root_below p pk m t i (ht_sig p sk pk m t i) p.d ≡ signed_at p sk pk m t i p.d = below-signed s sk pk m t i p.d (omega arith) in
    let top : signed_at p sk pk m t i p.d ≡ xmss_pk_from_sig p pk at (signed_at p sk pk m t i e) (xmss_sig p sk pk at (signed_at p sk pk m t i e)) =
    ap (signed_at p sk pk m t i) (top_layer s) ∙ unfold signed_at in refl in
    let small : t < 2 ^ (p.hp * e) = rw (h_below_top s) at ht in
    let none : at.tree ≡ 0 = layer_place-tree p t i e ∙ div-eq_of_lt small in
    whole ∙ top ∙ xmss_pk_from_sig-xmss_sig s sk pk at (signed_at p sk pk m t i e) (layer_place-pair p t i e hi)
    ∙ ap (λ l. root (xmss_tree p sk pk l at.tree)) (layer_place-layer p t i e)
    ∙ ap (λ k. root (xmss_tree p sk pk e k)) none
