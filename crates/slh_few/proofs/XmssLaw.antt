-- The root that an XMSS signature gives is the tree's.
use Rattle.std.proofs.Common.{◌≡◌, ℕ, ◌^◌, ◌<◌, List, [], ◌++◌, length, take, drop, refl, ap, ◌∙◌, arith, length-append}
use Rattle.std.proofs.lemmas.List.{take-append-le, take_all, drop_at}
use Rattle.slh_params.specs.ParamSet.{params}
use Rattle.slh_params.specs.declared.param_set.ParamSet.{ParamSet}
use Rattle.slh_params.proofs.Bounds.{n_high}
use Rattle.slh_tree.specs.Tree.{root}
use Rattle.slh_tree.specs.Climb.{path, climb, path_node}
use Rattle.slh_tree.proofs.Authentic.{climb-path, length-path_below}
use Rattle.slh_few.specs.Wots.{wots_sig, wots_pk_from_sig, wots_pk}
use Rattle.slh_few.specs.Xmss.{xmss_tree, xmss_sig, xmss_pk_from_sig, xmss_sig_len, wots_sig_len}
use Rattle.slh_few.specs.Trees.{xmss_tree-lawful}
use Rattle.slh_few.specs.declared.place.Place.{Place}
use Rattle.slh_few.proofs.WotsLaw.{length-wots_sig, wots_pk_from_sig-wots_sig}
use Rattle.slh_few.proofs.Climbing.{climb_to-join}

-- the front of two strings put end to end
pub take_front : (xs ys : List ℕ) (n : ℕ) → length xs ≡ n → take n (xs ++ ys) ≡ xs
take_front xs ys n e = take-append-le n xs ys (omega arith) ∙ take_all n xs (omega arith)

-- the signature has (len + h') n bytes
pub length-xmss_sig : (s : ParamSet) (sk pk : List ℕ) (at : Place) (m : List ℕ) → length (xmss_sig (params s) sk pk at m) ≡ xmss_sig_len (params s)
unfolding xmss_sig
length-xmss_sig s sk pk at m =
    let p = params s in
    length-append (wots_sig p sk pk at m) (path (xmss_tree p sk pk at.layer at.tree) at.pair)
    ∙ omega (
      arith,
      length-wots_sig p sk pk at m (n_high s),
      length-path_below (xmss_tree p sk pk at.layer at.tree) (xmss_tree-lawful s sk pk at.layer at.tree) at.pair p.hp,
    )

-- its parts are the WOTS+ signature and the path
pub xmss_sig-wots : (s : ParamSet) (sk pk : List ℕ) (at : Place) (m : List ℕ)
    → take (wots_sig_len (params s)) (xmss_sig (params s) sk pk at m) ≡ wots_sig (params s) sk pk at m
unfolding xmss_sig
xmss_sig-wots s sk pk at m =
    let p = params s in
    take_front (wots_sig p sk pk at m) (path (xmss_tree p sk pk at.layer at.tree) at.pair) (wots_sig_len p) (length-wots_sig p sk pk at m (n_high s))

pub xmss_sig-path : (s : ParamSet) (sk pk : List ℕ) (at : Place) (m : List ℕ)
    → drop (wots_sig_len (params s)) (xmss_sig (params s) sk pk at m) ≡ path (xmss_tree (params s) sk pk at.layer at.tree) at.pair
unfolding xmss_sig
xmss_sig-path s sk pk at m =
    let p = params s in
    drop_at (wots_sig p sk pk at m) (path (xmss_tree p sk pk at.layer at.tree) at.pair) (wots_sig_len p) (length-wots_sig p sk pk at m (n_high s))

-- the signature's root is the tree's
pub xmss_pk_from_sig-xmss_sig : (s : ParamSet) (sk pk : List ℕ) (at : Place) (m : List ℕ) → at.pair < 2 ^ (params s).hp
    → xmss_pk_from_sig (params s) pk at m (xmss_sig (params s) sk pk at m) ≡ root (xmss_tree (params s) sk pk at.layer at.tree)
unfolding xmss_pk_from_sig
xmss_pk_from_sig-xmss_sig s sk pk at m h =
    let p = params s in
    let sig = xmss_sig p sk pk at m in
    let t = xmss_tree p sk pk at.layer at.tree in
    let u = xmss_tree p [] pk at.layer at.tree in
    ap (λ xs. climb u at.pair (wots_pk_from_sig p pk at m xs) (drop (wots_sig_len p) sig)) (xmss_sig-wots s sk pk at m)
    ∙ ap (λ ys. climb u at.pair (wots_pk_from_sig p pk at m (wots_sig p sk pk at m)) ys) (xmss_sig-path s sk pk at m)
    ∙ ap (λ x. climb u at.pair x (path t at.pair)) (wots_pk_from_sig-wots_sig p sk pk at m (n_high s))
    ∙ climb_to-join u t at.pair (wots_pk p sk pk at) (path_node p.n (path t at.pair)) p.hp refl
    ∙ climb-path t (xmss_tree-lawful s sk pk at.layer at.tree) at.pair h
