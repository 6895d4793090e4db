-- The signature of a message under a generated key is valid.
use Rattle.std.proofs.Common.{◌≡◌, ℕ, ◌+◌, ◌-◌, ◌*◌, ◌^◌, ◌<◌, List, ◌++◌, length, take, drop, refl, ◌∙◌, arith, length-append}
use Rattle.std.proofs.lemmas.List.{take_at, drop_at}
use Rattle.std.proofs.lemmas.Nat.{pow_pos}
use Rattle.std.proofs.Math.Nat.{mod-lt}
use Rattle.slh_params.specs.Bits.{to_int}
use Rattle.slh_params.specs.Params.{Params, h, md_len, tree_len, leaf_len, sig_len}
use Rattle.slh_params.specs.ParamSet.{params}
use Rattle.slh_params.proofs.Bounds.{n_high}
use Rattle.slh_hash.specs.Keyed.{PRF_msg}
use Rattle.slh_hash.proofs.Lengths.{length-PRF_msg}
use Rattle.slh_few.specs.Fors.{fors_part, fors_part_len, fors_sig}
use Rattle.slh_few.specs.Xmss.{xmss_sig_len}
use Rattle.slh_few.specs.Hypertree.{layer_sig, ht_sig}
use Rattle.slh_few.proofs.Ends.{length-end_to_end}
use Rattle.slh_few.proofs.ForsLaw.{length-fors_part}
use Rattle.slh_few.proofs.XmssLaw.{length-xmss_sig}
use Rattle.slh_few.proofs.HtLaw.{ht_root_from_sig-ht_sig}
use Rattle.slh_core.specs.DigestParts.{md, idx_tree, idx_leaf}
use Rattle.slh_core.specs.Keys.{Key, sk_seed, sk_prf, public_of, pk_seed, pk_root, IsGeneratedKey, top_root}
use Rattle.slh_core.specs.Signatures.{digest_of, fors_sig_of, pk_fors_of, ht_sig_of, fors_sig_len, root_of_parts, signature_of_digest, signature, IsValid}
use Rattle.slh_core.proofs.Lengths.{parts_of_sig}
use Rattle.slh_core.proofs.Parts.{valid}

-- the tree and the leaf that a digest names are in range
pub idx_tree_lt : (p : Params) (digest : List ℕ) → idx_tree p digest < 2 ^ (h p - p.hp)
unfolding idx_tree
idx_tree_lt p digest = mod-lt (to_int (take (tree_len p) (drop (md_len p) digest))) (pow_pos (h p - p.hp))

pub idx_leaf_lt : (p : Params) (digest : List ℕ) → idx_leaf p digest < 2 ^ p.hp
unfolding idx_leaf
idx_leaf_lt p digest = mod-lt (to_int (take (leaf_len p) (drop (md_len p + tree_len p) digest))) (pow_pos p.hp)

-- the length of a FORS signature
pub length-fors_sig_of : (sk : Key) (digest : List ℕ) → length (fors_sig_of sk digest) ≡ fors_sig_len (params sk.set)
unfolding fors_sig
length-fors_sig_of sk digest =
    let p = params sk.set in
    let t = idx_tree p digest in
    let i = idx_leaf p digest in
    length-end_to_end (fors_part p (sk_seed sk) (pk_seed (public_of sk)) t i (md p digest)) (fors_part_len p) p.k
    (λ c l. length-fors_part sk.set (sk_seed sk) (pk_seed (public_of sk)) t i (md p digest) c)

-- the length of a hypertree signature
pub length-ht_sig_of : (sk : Key) (digest key : List ℕ) → length (ht_sig_of sk digest key) ≡ (params sk.set).d * xmss_sig_len (params sk.set)
unfolding ht_sig
length-ht_sig_of sk digest key =
    let p = params sk.set in
    length-end_to_end (layer_sig p (sk_seed sk) (pk_seed (public_of sk)) key (idx_tree p digest) (idx_leaf p digest)) (xmss_sig_len p) p.d
    (λ c l. length-xmss_sig sk.set (sk_seed sk) (pk_seed (public_of sk)) _ _)

-- what follows R in a generated key's signature gives the key's root
parts_root : (sk : Key) (digest : List ℕ) → IsGeneratedKey sk
    → root_of_parts (public_of sk) digest (take (fors_sig_len (params sk.set)) (signature_of_digest sk digest)) (drop (fors_sig_len (params sk.set)) (signature_of_digest sk digest))
    ≡ pk_root (public_of sk)
unfolding root_of_parts signature_of_digest IsGeneratedKey top_root
parts_root sk digest gen =
    let p = params sk.set in
    let pk = public_of sk in
    let fors = fors_sig_of sk digest in
    let tree = ht_sig_of sk digest (pk_fors_of pk digest fors) in
    let front : take (fors_sig_len p) (fors ++ tree) ≡ fors = take_at fors tree (fors_sig_len p) (length-fors_sig_of sk digest) in
    let back : drop (fors_sig_len p) (fors ++ tree) ≡ tree = drop_at fors tree (fors_sig_len p) (length-fors_sig_of sk digest) in
    rw (front, back, gen)
    (ht_root_from_sig-ht_sig sk.set (sk_seed sk) (pk_seed pk) (pk_fors_of pk digest fors) (idx_tree p digest) (idx_leaf p digest) (idx_leaf_lt p digest) (idx_tree_lt p digest))

-- the length of what follows R
length-rest : (sk : Key) (digest : List ℕ) → length (signature_of_digest sk digest) ≡ fors_sig_len (params sk.set) + (params sk.set).d * xmss_sig_len (params sk.set)
unfolding signature_of_digest
length-rest sk digest =
    let fors = fors_sig_of sk digest in
    let key = pk_fors_of (public_of sk) digest fors in
    length-append fors (ht_sig_of sk digest key) ∙ omega (arith, length-fors_sig_of sk digest, length-ht_sig_of sk digest key)

-- the signature of a message under a generated key is valid
pub signature_valid : (sk : Key) (msg opt_rand : List ℕ) → IsGeneratedKey sk → IsValid (public_of sk) msg (signature sk msg opt_rand)
unfolding signature
signature_valid sk msg opt_rand gen =
    let p = params sk.set in
    let r : List ℕ = PRF_msg p (sk_prf sk) opt_rand msg in
    let digest : List ℕ = digest_of (public_of sk) r msg in
    let rest : List ℕ = signature_of_digest sk digest in
    let n : length r ≡ p.n = length-PRF_msg p (sk_prf sk) opt_rand msg (n_high sk.set) in
    let len : length (r ++ rest) ≡ sig_len p = length-append r rest ∙ omega (arith, n, length-rest sk digest, parts_of_sig p) in
    valid (public_of sk) msg r rest (r ++ rest) refl n len (parts_root sk digest gen)
