-- R, then the FORS and the hypertree signature of the digest, put end to end, are the signature.
use Rattle.std.proofs.Common.{◌≡◌, ℕ, ◌≤◌, ◌<◌, ◌^◌, List, ◌++◌, length-take-le, arith, ap, sym, subst, refl, ◌∙◌, rules}
use Rattle.slh_params.specs.ParamSet.{params}
use Rattle.slh_params.proofs.Bounds.{m_high}
use Rattle.slh_few.specs.Fors.{fors_sig}
use Rattle.slh_hash.specs.Keyed.{joined}
use Rattle.slh_core.specs.DigestParts.{idx_tree, idx_leaf, md}
use Rattle.slh_core.specs.Keys.{Key, sk_seed, public_of, pk_seed}
use Rattle.slh_core.specs.Signatures.{digest_of, signature_of_digest, signature, IsValid}
use Rattle.slh_core.proofs.Assembled.{signed_parts}
use Rattle.slh_core.proofs.Valid.{signature_valid}
use Rattle.slh_subtrees.specs.Assembled.{answers_of, sig_fors_by, sig_ht_by}
use Rattle.slh_subtrees.specs.SigningTrees.{source_of}
use Rattle.slh_subtrees.specs.Trees.{TreeSource}
use Rattle.slh_subtrees.proofs.Assembled.{pk_fors_of, sig_fors-right, sig_ht-right, answers_of-right}
use Rattle.slh_par.specs.JobAnswers.{source_by}
use Rattle.slh_par.proofs.signing.sign_parts_par.Goals as goal

-- the buffer has room for the digest of any set
pub slice_bounds-buffer-end : goal.slice_bounds-buffer-end
slice_bounds-buffer-end g c = omega (arith, c.m.ensures, m_high c.set-set.result)

pub slice_bounds-digest-end : goal.slice_bounds-digest-end
slice_bounds-digest-end g c =
    let fits : c.m.result ≤ 122 = omega (arith, c.m.ensures, m_high c.set-set.result) in
    sym (length-take-le c.m.result _ fits)

pub randomized_digest-r-requires-clause-digest : goal.randomized_digest-r-requires-clause-digest
randomized_digest-r-requires-clause-digest g c =
    let fits : c.m.result ≤ 122 = omega (arith, c.m.ensures, m_high c.set-set.result) in
    length-take-le c.m.result _ fits ∙ rw c.set-set.ensures at c.m.ensures

pub trees_of-trees-requires : goal.trees_of-trees-requires
trees_of-trees-requires g c =
    let fits : c.m.result ≤ 122 = omega (arith, c.m.ensures, m_high c.set-set.result) in
    c.randomized_digest-r.auto.digest ∙ length-take-le c.m.result _ fits ∙ rw (c.signer-signer.ensures.set) (rw c.set-set.ensures at c.m.ensures)

pub returns-clause-signature : goal.returns-clause-signature
unfolding signature
returns-clause-signature g c =
    let sk : Key = c.args.sk.now in
    let msg : List ℕ = joined c.args.parts.now in
    let digest : List ℕ = c.randomized_digest-r.new.digest in
    let s : TreeSource = source_of c.trees_of-trees.result in
    let r : List ℕ = c.randomized_digest-r.result.items in
    let own : TreeSource = record {
      set = sk.set;
      sk_seed = sk_seed sk;
      pk_seed = pk_seed (public_of sk);
      idx_tree = idx_tree (params sk.set) digest;
      idx_leaf = idx_leaf (params sk.set) digest;
      md = md (params sk.set) digest;
    } in
    let of_key : source_by c.signer-signer.result digest ≡ own =
    rw (c.signer-signer.ensures.set, c.signer-signer.ensures.sk_seed, c.signer-signer.ensures.pk_seed) refl in
    let By : TreeSource → List ℕ = λ x. r ++ (sig_fors_by x (answers_of x) ++ sig_ht_by x (answers_of x)) in
    let leaf : own.idx_leaf < 2 ^ (params own.set).hp = search rules in
    c.in_ok-write_signature.ensures.signature ∙ ap By (c.trees_of-trees.ensures.source ∙ of_key)
    ∙ ap (λ ys. r ++ (ys ++ sig_ht_by own (answers_of own))) (sig_fors-right own (answers_of own) leaf (answers_of-right own))
    ∙ ap (λ ys. r ++ (fors_sig (params sk.set) (sk_seed sk) (pk_seed (public_of sk)) own.idx_tree own.idx_leaf own.md ++ ys)) (sig_ht-right own (answers_of own) leaf (answers_of-right own))
    ∙ ap (λ ys. r ++ ys) (signed_parts sk digest own.idx_tree own.idx_leaf own.md (pk_fors_of own) refl refl refl refl)
    ∙ ap (λ d. r ++ signature_of_digest sk d) c.randomized_digest-r.ensures.digest
    ∙ ap (λ x. x ++ signature_of_digest sk (digest_of (public_of sk) x msg)) c.randomized_digest-r.ensures.r

pub returns-clause-authentic : goal.returns-clause-authentic
returns-clause-authentic g c =
    let sk : Key = c.args.sk.now in
    let msg : List ℕ = joined c.args.parts.now in
    λ gen. subst (λ (sig : List ℕ). IsValid (public_of sk) msg sig) (sym (returns-clause-signature g c)) (signature_valid sk msg _ gen)
