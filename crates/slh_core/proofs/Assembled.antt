-- The parts of a signature put end to end.
use Rattle.std.proofs.Common.{◌≡◌, ℕ, List, ◌++◌, sym, ◌∙◌, refl}
use Rattle.slh_params.specs.ParamSet.{params}
use Rattle.slh_tree.specs.Tree.{root}
use Rattle.slh_few.specs.Fors.{fors_tree, fors_sig, compressed_roots}
use Rattle.slh_few.specs.Hypertree.{ht_sig}
use Rattle.slh_few.proofs.ForsLaw.{fors_pk_from_sig-fors_sig}
use Rattle.slh_core.specs.DigestParts.{md, idx_tree, idx_leaf}
use Rattle.slh_core.specs.Keys.{Key, sk_seed, public_of, pk_seed}
use Rattle.slh_core.specs.Signatures.{fors_sig_of, pk_fors_of, signature_of_digest}

-- the FORS signature, then the hypertree signature of T over the roots of the FORS trees, is what follows R
pub signed_parts : (sk : Key) (digest : List ℕ) (t i : ℕ) (first pk_fors : List ℕ)
    → t ≡ idx_tree (params sk.set) digest → i ≡ idx_leaf (params sk.set) digest → first ≡ md (params sk.set) digest
    → pk_fors ≡ compressed_roots (params sk.set) (pk_seed (public_of sk)) t i (λ j. root (fors_tree (params sk.set) (sk_seed sk) (pk_seed (public_of sk)) t i j))
    → fors_sig (params sk.set) (sk_seed sk) (pk_seed (public_of sk)) t i first ++ ht_sig (params sk.set) (sk_seed sk) (pk_seed (public_of sk)) pk_fors t i
    ≡ signature_of_digest sk digest
unfolding signature_of_digest
signed_parts sk digest t i first pk_fors et ei ef ek =
    let p = params sk.set in
    let fors = fors_sig_of sk digest in
    let same : pk_fors ≡ pk_fors_of (public_of sk) digest fors =
    rw (et, ei) at ek ∙ sym (fors_pk_from_sig-fors_sig sk.set (sk_seed sk) (pk_seed (public_of sk)) (idx_tree p digest) (idx_leaf p digest) (md p digest)) in
    rw (et, ei, ef, same) refl
