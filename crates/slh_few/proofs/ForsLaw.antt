-- The key that a FORS signature gives is T over the trees' roots.
use Rattle.std.proofs.Common.{◌≡◌, ℕ, ◌+◌, ◌*◌, ◌^◌, ◌<◌, List, [], ◌++◌, length, take, drop, refl, ap, ◌∙◌, arith, length-append}
use Rattle.std.proofs.lemmas.List.{drop_at}
use Rattle.slh_params.specs.Params.{Params}
use Rattle.slh_params.specs.ParamSet.{params}
use Rattle.slh_params.specs.Address.{address}
use Rattle.slh_params.specs.declared.param_set.ParamSet.{ParamSet}
use Rattle.slh_params.proofs.Bounds.{n_high}
use Rattle.slh_params.proofs.Groups.{base_2b-digit}
use Rattle.slh_hash.specs.Hash.{T}
use Rattle.slh_hash.proofs.Lengths.{length-PRF}
use Rattle.slh_tree.specs.Tree.{root}
use Rattle.slh_tree.specs.Climb.{path, climb, path_node}
use Rattle.slh_tree.proofs.Authentic.{climb-path, length-path_below}
use Rattle.slh_few.specs.Chunks.{end_to_end, chunk}
use Rattle.slh_few.specs.Fors.{fors_secret, fors_leaf, fors_tree, fors_index, fors_part_len, fors_part, fors_sig, fors_root, fors_pk_from_sig, compressed_roots}
use Rattle.slh_few.specs.Trees.{fors_tree-lawful}
use Rattle.slh_few.proofs.Climbing.{climb_to-join}
use Rattle.slh_few.proofs.Ends.{chunk-end_to_end, end_to_end-same}
use Rattle.slh_few.proofs.XmssLaw.{take_front}

-- a secret has n bytes
pub length-fors_secret : (s : ParamSet) (sk pk : List ℕ) (t i u : ℕ) → length (fors_secret (params s) sk pk t i u) ≡ (params s).n
unfolding fors_secret
length-fors_secret s sk pk t i u = length-PRF (params s) pk sk _ (n_high s)

-- a digest asks for a leaf of the tree
pub index_lt : (p : Params) (md : List ℕ) (j : ℕ) → fors_index p md j < 2 ^ p.a
index_lt p md j = base_2b-digit md p.a p.k j

-- a tree's part of the signature has (1 + a) n bytes
pub length-fors_part : (s : ParamSet) (sk pk : List ℕ) (t i : ℕ) (md : List ℕ) (j : ℕ) → length (fors_part (params s) sk pk t i md j) ≡ fors_part_len (params s)
length-fors_part s sk pk t i md j =
    let p = params s in
    let u = j * 2 ^ p.a + fors_index p md j in
    length-append (fors_secret p sk pk t i u) (path (fors_tree p sk pk t i j) (fors_index p md j))
    ∙ omega (arith, length-fors_secret s sk pk t i u, length-path_below (fors_tree p sk pk t i j) (fors_tree-lawful s sk pk t i j) (fors_index p md j) p.a)

-- a tree's part gives the tree's root
pub fors_root-part : (s : ParamSet) (sk pk : List ℕ) (t i : ℕ) (md : List ℕ) (j : ℕ)
    → fors_root (params s) pk t i md j (fors_part (params s) sk pk t i md j) ≡ root (fors_tree (params s) sk pk t i j)
fors_root-part s sk pk t i md j =
    let p = params s in
    let x = fors_index p md j in
    let u = j * 2 ^ p.a + x in
    let S = fors_secret p sk pk t i u in
    let tree = fors_tree p sk pk t i j in
    let bare = fors_tree p [] pk t i j in
    let front : take p.n (S ++ path tree x) ≡ S = take_front S (path tree x) p.n (length-fors_secret s sk pk t i u) in
    let back : drop p.n (S ++ path tree x) ≡ path tree x = drop_at S (path tree x) p.n (length-fors_secret s sk pk t i u) in
    ap (λ xs. climb bare x (fors_leaf p pk t i u xs) (drop p.n (S ++ path tree x))) front
    ∙ ap (λ ys. climb bare x (fors_leaf p pk t i u S) ys) back
    ∙ climb_to-join bare tree x (fors_leaf p pk t i u S) (path_node p.n (path tree x)) p.a refl
    ∙ climb-path tree (fors_tree-lawful s sk pk t i j) x (index_lt p md j)

-- so does its part of a whole signature
root-part : (s : ParamSet) (sk pk : List ℕ) (t i : ℕ) (md : List ℕ) (j : ℕ) → j < (params s).k
    → fors_root (params s) pk t i md j (chunk (fors_part_len (params s)) (fors_sig (params s) sk pk t i md) j) ≡ root (fors_tree (params s) sk pk t i j)
unfolding fors_sig
root-part s sk pk t i md j l =
    let p = params s in
    let here : chunk (fors_part_len p) (end_to_end (fors_part p sk pk t i md) p.k) j ≡ fors_part p sk pk t i md j =
    chunk-end_to_end (fors_part p sk pk t i md) (fors_part_len p) p.k j l (λ c q. length-fors_part s sk pk t i md c) in
    ap (fors_root p pk t i md j) here ∙ fors_root-part s sk pk t i md j

-- the signature's key is T over the roots
pub fors_pk_from_sig-fors_sig : (s : ParamSet) (sk pk : List ℕ) (t i : ℕ) (md : List ℕ)
    → fors_pk_from_sig (params s) pk t i md (fors_sig (params s) sk pk t i md)
    ≡ compressed_roots (params s) pk t i (λ j. root (fors_tree (params s) sk pk t i j))
unfolding fors_pk_from_sig
fors_pk_from_sig-fors_sig s sk pk t i md =
    let p = params s in
    let sig = fors_sig p sk pk t i md in
    ap (λ x. T p pk (address 0 t 4 i 0 0) x)
    (end_to_end-same (λ j. fors_root p pk t i md j (chunk (fors_part_len p) sig j)) (λ j. root (fors_tree p sk pk t i j)) p.k (root-part s sk pk t i md))
