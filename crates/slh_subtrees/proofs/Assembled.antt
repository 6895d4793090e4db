-- Where the answers are right, the signature that is made of them is the standard's.
use Rattle.std.proofs.Common.{◌≡◌, ℕ, zero, suc, ◌^◌, ◌<◌, List, ◌++◌, refl, ap, sym, ◌∙◌, arith}
use Rattle.slh_params.specs.ParamSet.{params}
use Rattle.slh_params.specs.Address.{address}
use Rattle.slh_hash.specs.Hash.{T}
use Rattle.slh_tree.specs.Tree.{root}
use Rattle.slh_few.specs.Fors.{fors_part, fors_sig, compressed_roots}
use Rattle.slh_few.specs.Hypertree.{layer_sig, ht_sig, signed_at}
use Rattle.slh_few.specs.KeyCheckpoints.{wots_sig_from}
use Rattle.slh_few.specs.Wots.{wots_sig}
use Rattle.slh_few.proofs.Ends.{end_to_end-same}
use Rattle.slh_few.proofs.HtLaw.{signed_at-start, signed_at-root, layer_sig-parts}
use Rattle.slh_few.proofs.KeyCheckpoints.{wots_sig_from-own}
use Rattle.slh_subtrees.specs.Trees.{TreeSource, place_of, tree_of, secret_of, checkpoints_of}
use Rattle.slh_subtrees.specs.Assembled.{TreeAnswers, AreRight, answers_of, fors_part_by, signed_by, layer_part_by, sig_fors_by, sig_ht_by}
use Rattle.slh_subtrees.specs.declared.range.JobTree.TheVariants.{Xmss, Fors}

-- the FORS public key
abbrev pub pk_fors_of : TreeSource → List ℕ
pk_fors_of s = compressed_roots (params s.set) s.pk_seed s.idx_tree s.idx_leaf (λ j. root (tree_of s (Fors j)))

-- what layer l signs
abbrev pub signed_of : TreeSource → ℕ → List ℕ
signed_of s l = signed_at (params s.set) s.sk_seed s.pk_seed (pk_fors_of s) s.idx_tree s.idx_leaf l

module _ (s : TreeSource) (a : TreeAnswers) (leaf : s.idx_leaf < 2 ^ (params s.set).hp) (right : AreRight s a) where
  pub pk_fors-right : signed_by s a zero ≡ pk_fors_of s
  pk_fors-right =
      ap (λ (x : List ℕ). T (params s.set) s.pk_seed (address 0 s.idx_tree 4 s.idx_leaf 0 0) x)
      (end_to_end-same (λ j. a.root (Fors j)) (λ j. root (tree_of s (Fors j))) (params s.set).k (λ j lt. right.roots (Fors j) lt))

  pub signed-right : (l : ℕ) → l < (params s.set).d → signed_by s a l ≡ signed_of s l
  signed-right zero lt = pk_fors-right ∙ signed_at-start (params s.set) s.sk_seed s.pk_seed (pk_fors_of s) s.idx_tree s.idx_leaf
  signed-right (suc l) lt =
      right.roots (Xmss l) (omega arith) ∙ sym (signed_at-root s.set s.sk_seed s.pk_seed (pk_fors_of s) s.idx_tree s.idx_leaf l leaf)

  pub fors_part-right : (j : ℕ) → j < (params s.set).k → fors_part_by a j ≡ fors_part (params s.set) s.sk_seed s.pk_seed s.idx_tree s.idx_leaf s.md j
  fors_part-right j lt =
      ap (λ (xs : List ℕ). xs ++ a.path (Fors j)) (right.secrets j lt) ∙ ap (λ (ys : List ℕ). secret_of s j ++ ys) (right.paths (Fors j) lt)

  pub layer_part-right : (l : ℕ) → l < (params s.set).d
      → layer_part_by s a l (signed_by s a l) ≡ layer_sig (params s.set) s.sk_seed s.pk_seed (pk_fors_of s) s.idx_tree s.idx_leaf l
  layer_part-right l lt =
      let sig : List ℕ → List ℕ → List ℕ = λ checkpoints m. wots_sig_from (params s.set) s.pk_seed (place_of s l) checkpoints m in
      let auth : List ℕ = a.path (Xmss l) in
      ap (λ (xs : List ℕ). sig xs (signed_by s a l) ++ auth) (right.checkpoints l lt)
      ∙ ap (λ (m : List ℕ). sig (checkpoints_of s l) m ++ auth) (signed-right l lt)
      ∙ ap (λ (xs : List ℕ). xs ++ auth) (wots_sig_from-own s.set s.sk_seed s.pk_seed (place_of s l) (signed_of s l))
      ∙ ap (λ (ys : List ℕ). wots_sig (params s.set) s.sk_seed s.pk_seed (place_of s l) (signed_of s l) ++ ys) (right.paths (Xmss l) lt)
      ∙ layer_sig-parts (params s.set) s.sk_seed s.pk_seed (pk_fors_of s) s.idx_tree s.idx_leaf l

  pub sig_fors-right : sig_fors_by s a ≡ fors_sig (params s.set) s.sk_seed s.pk_seed s.idx_tree s.idx_leaf s.md
  unfolding fors_sig
  sig_fors-right =
      end_to_end-same (fors_part_by a) (fors_part (params s.set) s.sk_seed s.pk_seed s.idx_tree s.idx_leaf s.md) (params s.set).k fors_part-right

  pub sig_ht-right : sig_ht_by s a ≡ ht_sig (params s.set) s.sk_seed s.pk_seed (pk_fors_of s) s.idx_tree s.idx_leaf
  unfolding ht_sig
  sig_ht-right =
      end_to_end-same (λ l. layer_part_by s a l (signed_by s a l)) (layer_sig (params s.set) s.sk_seed s.pk_seed (pk_fors_of s) s.idx_tree s.idx_leaf) (params s.set).d layer_part-right

-- the answers of the trees themselves are right
pub answers_of-right : (s : TreeSource) → AreRight s (answers_of s)
answers_of-right s = record {
  roots = λ tree of. refl;
  paths = λ tree of. refl;
  secrets = λ j lt. refl;
  checkpoints = λ l lt. refl;
}
