-- Where answers fit together, verifying what they give meets the roots that were compared.
use Rattle.std.proofs.Common.{◌≡◌, ℕ, zero, suc, ◌<◌, ◌≤◌, List, ◌++◌, length, take, drop, refl, ap, sym, ◌∙◌, arith}
use Rattle.std.proofs.lemmas.List.{take_at, drop_at}
use Rattle.slh_params.specs.Params.{sig_len}
use Rattle.slh_params.specs.ParamSet.{params}
use Rattle.slh_params.specs.declared.param_set.ParamSet.{ParamSet}
use Rattle.slh_params.specs.Address.{address}
use Rattle.slh_hash.specs.Hash.{T}
use Rattle.slh_few.specs.Fors.{fors_part_len, fors_root, fors_pk_from_sig}
use Rattle.slh_few.specs.Hypertree.{root_below, ht_root_from_sig}
use Rattle.slh_few.specs.Chunks.{chunk}
use Rattle.slh_few.specs.Xmss.{xmss_pk_from_sig, xmss_sig_len}
use Rattle.slh_few.proofs.Ends.{end_to_end-same, chunk-end_to_end, length-end_to_end}
use Rattle.slh_core.specs.DigestParts.{md, idx_tree, idx_leaf}
use Rattle.slh_core.specs.Keys.{Key, public_of, pk_seed, pk_root}
use Rattle.slh_core.specs.Signatures.{r_by, digest_of, fors_sig_len, root_of_parts, IsValid}
use Rattle.slh_core.specs.declared.randomizer.Randomizer.{Randomizer}
use Rattle.slh_core.proofs.Parts.{valid}
use Rattle.slh_subtrees.specs.Assembled.{TreeAnswers, fors_part_by, signed_by, layer_part_by, sig_fors_by, sig_ht_by}
use Rattle.slh_subtrees.specs.Trees.{TreeSource, place_of}
use Rattle.slh_subtrees.specs.declared.range.JobTree.TheVariants.{Fors}
use Rattle.slh_jobs.specs.Jobs.{params_of, r_in, digest_in, source}
use Rattle.slh_jobs.specs.Joined.{ForsFits, LayerFits, answers_given, signature_given, FitTogether}
use Rattle.slh_jobs.specs.Starts.{start_by}
use Rattle.slh_jobs.specs.Tags.{start_len}
use Rattle.slh_jobs.specs.declared.levels.Levels.{Levels}
use Rattle.slh_jobs.proofs.Begun.{length-r, r_read, digest_read}

-- the parts have the lengths that a signature's have
pub record AreSized (s : TreeSource) (a : TreeAnswers) : Type 0 where
  pub fors : (j : ℕ) → j < (params s.set).k → length (fors_part_by a j) ≡ fors_part_len (params s.set)
  pub layers : (l : ℕ) → l < (params s.set).d → length (layer_part_by s a l (signed_by s a l)) ≡ xmss_sig_len (params s.set)

-- what layer l adds
abbrev layer_part : TreeSource → TreeAnswers → ℕ → List ℕ
layer_part s a l = layer_part_by s a l (signed_by s a l)

-- the FORS public key that the FORS signature gives is the one that was compared
pk_fors-met : (s : TreeSource) (a : TreeAnswers) → ((j : ℕ) → j < (params s.set).k → ForsFits s a j) → AreSized s a
    → fors_pk_from_sig (params s.set) s.pk_seed s.idx_tree s.idx_leaf s.md (sig_fors_by s a) ≡ signed_by s a zero
unfolding fors_pk_from_sig
pk_fors-met s a fit sized =
    let p = params s.set in
    let Root : ℕ → List ℕ → List ℕ = λ j xs. fors_root p s.pk_seed s.idx_tree s.idx_leaf s.md j xs in
    ap (λ (xs : List ℕ). T p s.pk_seed (address 0 s.idx_tree 4 s.idx_leaf 0 0) xs)
    (end_to_end-same (λ j. Root j (chunk (fors_part_len p) (sig_fors_by s a) j)) (λ j. a.root (Fors j)) p.k
    (λ j lt. ap (Root j) (chunk-end_to_end (fors_part_by a) (fors_part_len p) p.k j lt sized.fors) ∙ fit j lt))

-- verifying meets on each layer what was signed there
below-met : (s : TreeSource) (a : TreeAnswers) → ((l : ℕ) → l < (params s.set).d → LayerFits s a l) → AreSized s a → (l : ℕ) → l ≤ (params s.set).d
    → root_below (params s.set) s.pk_seed (signed_by s a zero) s.idx_tree s.idx_leaf (sig_ht_by s a) l ≡ signed_by s a l
unfolding root_below
below-met s a fit sized zero le = refl
below-met s a fit sized (suc l) le =
    let p = params s.set in
    let lt : l < p.d = omega arith in
    ap (λ (x : List ℕ). xmss_pk_from_sig p s.pk_seed (place_of s l) x (chunk (xmss_sig_len p) (sig_ht_by s a) l)) (below-met s a fit sized l (omega arith))
    ∙ ap (xmss_pk_from_sig p s.pk_seed (place_of s l) (signed_by s a l)) (chunk-end_to_end (layer_part s a) (xmss_sig_len p) p.d l lt sized.layers)
    ∙ fit l lt

-- the root that both parts give, with the set apart from the key's
abbrev root_at : Key → List ℕ → List ℕ → List ℕ → ParamSet → List ℕ
root_at sk start sig_fors sig_ht set =
    let p = params set in
    let pk = pk_seed (public_of sk) in
    let digest = digest_in p start in
    ht_root_from_sig p pk (fors_pk_from_sig p pk (idx_tree p digest) (idx_leaf p digest) (md p digest) sig_fors) (idx_tree p digest) (idx_leaf p digest) sig_ht

root-met : (c : Levels) (sk : Key) (start bytes : List ℕ) → FitTogether c sk start bytes → AreSized (source c sk start) (answers_given c (source c sk start) bytes)
    → root_at sk start (sig_fors_by (source c sk start) (answers_given c (source c sk start) bytes)) (sig_ht_by (source c sk start) (answers_given c (source c sk start) bytes)) c.set ≡ pk_root (public_of sk)
root-met c sk start bytes fit sized =
    let p = params_of c in
    let s = source c sk start in
    let a = answers_given c s bytes in
    ap (λ (x : List ℕ). ht_root_from_sig p s.pk_seed x s.idx_tree s.idx_leaf (sig_ht_by s a)) (pk_fors-met s a fit.fors sized)
    ∙ below-met s a fit.layers sized p.d (omega arith)
    ∙ fit.top

root-own : (sk : Key) (start sig_fors sig_ht : List ℕ) → root_of_parts (public_of sk) (digest_in (params sk.set) start) sig_fors sig_ht ≡ root_at sk start sig_fors sig_ht sk.set
unfolding root_of_parts
root-own sk start sig_fors sig_ht = refl

-- so the signature is valid for the message that the start is of
pub joined_valid : (c : Levels) (sk : Key) (start bytes msg : List ℕ) (randomizer : Randomizer) (out : List ℕ) → sk.set ≡ c.set
    → length start ≡ start_len (params sk.set) → start ≡ start_by sk msg randomizer → FitTogether c sk start bytes → AreSized (source c sk start) (answers_given c (source c sk start) bytes)
    → out ≡ signature_given c sk start bytes → length out ≡ sig_len (params sk.set) → IsValid (public_of sk) msg out
joined_valid c sk start bytes msg randomizer out same len is fit sized made out_len =
    let p = params sk.set in
    let r : List ℕ = r_by sk msg randomizer in
    let digest : List ℕ = digest_of (public_of sk) r msg in
    let s = source c sk start in
    let fors : List ℕ = sig_fors_by s (answers_given c s bytes) in
    let ht : List ℕ = sig_ht_by s (answers_given c s bytes) in
    let front : r_in p start ≡ r = ap (r_in p) is ∙ r_read sk msg randomizer in
    let read : digest_in p start ≡ digest = ap (digest_in p) is ∙ digest_read sk msg randomizer (rw is at len) in
    let r_set : r_in (params_of c) start ≡ r = ap (λ (s : ParamSet). r_in (params s) start) (sym same) ∙ front in
    let whole : out ≡ r ++ (fors ++ ht) = made ∙ ap (λ (xs : List ℕ). xs ++ (fors ++ ht)) r_set in
    let fors_len : length fors ≡ fors_sig_len p = length-end_to_end (fors_part_by (answers_given c s bytes)) (fors_part_len (params_of c)) (params_of c).k sized.fors
    ∙ ap (λ (s : ParamSet). fors_sig_len (params s)) (sym same) in
    let root : root_of_parts (public_of sk) digest fors ht ≡ pk_root (public_of sk) =
    ap (λ (d : List ℕ). root_of_parts (public_of sk) d fors ht) (sym read)
    ∙ root-own sk start fors ht ∙ ap (root_at sk start fors ht) same ∙ root-met c sk start bytes fit sized in
    let parts : root_of_parts (public_of sk) digest (take (fors_sig_len p) (fors ++ ht)) (drop (fors_sig_len p) (fors ++ ht)) ≡ pk_root (public_of sk) =
    ap (λ (xs : List ℕ). root_of_parts (public_of sk) digest xs (drop (fors_sig_len p) (fors ++ ht))) (take_at fors ht (fors_sig_len p) fors_len)
    ∙ ap (λ (ys : List ℕ). root_of_parts (public_of sk) digest fors ys) (drop_at fors ht (fors_sig_len p) fors_len) ∙ root in
    valid (public_of sk) msg r (fors ++ ht) out whole (length-r sk msg randomizer) out_len parts
