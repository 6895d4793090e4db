-- Where all answers are right, what they say of the trees is right, so that they fit together, and the signature that
-- they give is the standard's.
use Rattle.std.proofs.Common.{◌≡◌, ℕ, ◌+◌, ◌-◌, ◌*◌, ◌/◌, ◌%◌, ◌^◌, ◌<◌, ◌≤◌, nat_lt, true, false, List, ◌++◌, take, drop, refl, ap, sym, subst, ◌∙◌, arith, rules}
use Rattle.std.proofs.lemmas.List.{drop-drop}
use Rattle.std.proofs.lemmas.Nat.{div-mul-add, mod-mul-add, pow_pos}
use Rattle.std.proofs.Math.Nat.{mod-lt, div-eq_of_lt}
use Rattle.slh_params.specs.ParamSet.{params}
use Rattle.slh_params.specs.declared.param_set.ParamSet.{ParamSet}
use Rattle.slh_params.proofs.Bounds.{n_high, d_low, h_below_top}
use Rattle.slh_hash.proofs.Lengths.{length-cut_hmac}
use Rattle.slh_tree.specs.Tree.{root}
use Rattle.slh_few.specs.Fors.{fors_tree, fors_root, fors_sig, compressed_roots}
use Rattle.slh_few.specs.Hypertree.{ht_sig}
use Rattle.slh_few.specs.Trees.{xmss_tree-lawful, fors_tree-lawful}
use Rattle.slh_few.specs.Xmss.{xmss_pk_from_sig, xmss_tree}
use Rattle.slh_few.specs.declared.place.Place.{Place}
use Rattle.slh_few.proofs.ForsLaw.{index_lt, fors_root-part}
use Rattle.slh_few.proofs.Layers.{layer_place-layer, layer_place-pair, layer_place-tree}
use Rattle.slh_few.proofs.Sizes.{top_layer}
use Rattle.slh_few.proofs.XmssLaw.{xmss_pk_from_sig-xmss_sig}
use Rattle.slh_core.specs.DigestParts.{md, idx_tree, idx_leaf}
use Rattle.slh_core.specs.Keys.{Key, sk_seed, public_of, pk_seed, pk_root, IsGeneratedKey, top_root}
use Rattle.slh_core.proofs.Assembled.{signed_parts}
use Rattle.slh_core.proofs.Valid.{idx_tree_lt}
use Rattle.slh_subtrees.specs.Assembled.{AreRight, signed_by, layer_part_by, sig_ht_by}
use Rattle.slh_subtrees.specs.Jobs.{IsTreeOf}
use Rattle.slh_subtrees.specs.Trees.{place_of, tree_of, leaf_of}
use Rattle.slh_subtrees.specs.declared.range.JobTree.{JobTree}
use Rattle.slh_subtrees.specs.declared.range.JobTree.TheVariants.{Xmss, Fors}
use Rattle.slh_subtrees.proofs.Assembled.{signed_of, signed-right, fors_part-right, layer_part-right, sig_fors-right, sig_ht-right}
use Rattle.slh_jobs.specs.Ranges.{answer_len, given, node_given, tag_given}
use Rattle.slh_jobs.specs.Jobs.{params_of, xmss_shape, fors_shape, shape_of, xmss_jobs, fors_jobs, first_job, first_of_kind, tree_answer, rest_of, tag_of, source, digest_in, r_in, AreAnswers}
use Rattle.slh_jobs.specs.Joined.{fors_answers, answers_of_kind, answers_given, signature_given, FitTogether}
use Rattle.slh_jobs.specs.Starts.{signature_from}
use Rattle.slh_jobs.specs.declared.levels.Levels.{Levels}
use Rattle.slh_jobs.proofs.Indices.{xmss_is_shape, fors_is_shape, tree_of_job, number_below, leaf_below}
use Rattle.slh_jobs.proofs.Right.{AreOfTree, tag-right, rest-right, root-right, auth-right}

-- a test of two numbers
lt_true : (a b : ℕ) → a < b → nat_lt a b ≡ true
lt_true a b h = search rules

lt_false : (a b : ℕ) → b ≤ a → nat_lt a b ≡ false
lt_false a b h = search rules

-- a job below the number of XMSS jobs
xmss_answer_at : (c : Levels) (sk : Key) (start bytes : List ℕ) → AreAnswers c sk start bytes → (l r : ℕ) → l < (params_of c).d → r < 2 ^ c.xmss
    → given (xmss_shape c) bytes (l * 2 ^ c.xmss + r) ≡ tree_answer c (source c sk start) (tag_of c sk start) (Xmss l) r
xmss_answer_at c sk start bytes are l r ll lr =
    let n = l * 2 ^ c.xmss + r in
    let Answer : JobTree → ℕ → List ℕ = tree_answer c (source c sk start) (tag_of c sk start) in
    let lt : n < xmss_jobs c = number_below l r c.xmss (params_of c).d ll lr in
    let yes : nat_lt n (xmss_jobs c) ≡ true = lt_true n (xmss_jobs c) lt in
    let at : take (answer_len (xmss_shape c)) (drop (n * answer_len (xmss_shape c)) bytes) ≡ Answer (Xmss (n / 2 ^ c.xmss)) (n % 2 ^ c.xmss) =
    rw yes at (are n (omega arith)) in
    at ∙ ap (λ (x : ℕ). Answer (Xmss x) (n % 2 ^ c.xmss)) (div-mul-add l (2 ^ c.xmss) r lr) ∙ ap (Answer (Xmss l)) (mod-mul-add l (2 ^ c.xmss) r lr)

-- a job of the FORS trees
fors_answer_at : (c : Levels) (sk : Key) (start bytes : List ℕ) → AreAnswers c sk start bytes → (j r : ℕ) → j < (params_of c).k → r < 2 ^ c.fors
    → given (fors_shape c) (fors_answers c bytes) (j * 2 ^ c.fors + r) ≡ tree_answer c (source c sk start) (tag_of c sk start) (Fors j) r
fors_answer_at c sk start bytes are j r lj lr =
    let m = j * 2 ^ c.fors + r in
    let n = xmss_jobs c + m in
    let Answer : JobTree → ℕ → List ℕ = tree_answer c (source c sk start) (tag_of c sk start) in
    let len = answer_len (fors_shape c) in
    let before = xmss_jobs c * answer_len (xmss_shape c) in
    let lt : m < fors_jobs c = number_below j r c.fors (params_of c).k lj lr in
    let no : nat_lt n (xmss_jobs c) ≡ false = lt_false n (xmss_jobs c) (omega arith) in
    let own : n - xmss_jobs c ≡ m = omega arith in
    let at : take len (drop (before + m * len) bytes) ≡ Answer (Fors (m / 2 ^ c.fors)) (m % 2 ^ c.fors) = rw (no, own) at (are n (omega arith)) in
    ap (take len) (drop-drop (m * len) before bytes) ∙ at ∙ ap (λ (x : ℕ). Answer (Fors x) (m % 2 ^ c.fors)) (div-mul-add j (2 ^ c.fors) r lr) ∙ ap (Answer (Fors j)) (mod-mul-add j (2 ^ c.fors) r lr)

-- the answers of a tree are right
tree_right : (c : Levels) (sk : Key) (start bytes : List ℕ) → AreAnswers c sk start bytes → (tree : JobTree) → IsTreeOf (params_of c) tree
    → AreOfTree (tree_of (source c sk start) tree) (shape_of c tree) (leaf_of (source c sk start) tree) (rest_of (source c sk start) tree) (λ r. tag_of c sk start (first_job c tree + r)) (answers_of_kind c bytes tree) (first_of_kind c tree)
tree_right c sk start bytes are (Xmss l) lt =
    let p = params_of c in
    let s = source c sk start in
    record {
      law = xmss_tree-lawful c.set s.sk_seed s.pk_seed l (place_of s l).tree;
      shape = xmss_is_shape c;
      height = refl;
      width = refl;
      leaf = layer_place-pair p s.idx_tree s.idx_leaf l (leaf_below p (digest_in p start));
      tag_len = λ r x. length-cut_hmac p _ _ (n_high c.set);
      each = λ r lr. xmss_answer_at c sk start bytes are l r lt lr;
    }
tree_right c sk start bytes are (Fors j) lt =
    let p = params_of c in
    let s = source c sk start in
    record {
      law = fors_tree-lawful c.set s.sk_seed s.pk_seed s.idx_tree s.idx_leaf j;
      shape = fors_is_shape c;
      height = refl;
      width = refl;
      leaf = index_lt p s.md j;
      tag_len = λ r x. length-cut_hmac p _ _ (n_high c.set);
      each = λ r lr. fors_answer_at c sk start bytes are j r lt lr;
    }

-- so is what they say of the trees
answers-right : (c : Levels) (sk : Key) (start bytes : List ℕ) → AreAnswers c sk start bytes → AreRight (source c sk start) (answers_given c (source c sk start) bytes)
answers-right c sk start bytes are = record {
  roots = λ tree of. root-right _ (shape_of c tree) _ _ _ (answers_of_kind c bytes tree) (first_of_kind c tree) (tree_right c sk start bytes are tree of);
  paths = λ tree of. auth-right _ (shape_of c tree) _ _ _ (answers_of_kind c bytes tree) (first_of_kind c tree) (tree_right c sk start bytes are tree of);
  secrets = λ j lt. rest-right _ (fors_shape c) _ _ _ (fors_answers c bytes) (j * 2 ^ c.fors) (tree_right c sk start bytes are (Fors j) lt);
  checkpoints = λ l lt. rest-right _ (xmss_shape c) _ _ _ bytes (l * 2 ^ c.xmss) (tree_right c sk start bytes are (Xmss l) lt);
}

-- the signature, with the set apart from the key's
abbrev standard_at : Key → List ℕ → ParamSet → List ℕ
standard_at sk start set =
    let p = params set in
    let secret = sk_seed sk in
    let public = pk_seed (public_of sk) in
    let digest = digest_in p start in
    let t = idx_tree p digest in
    let i = idx_leaf p digest in
    r_in p start
    ++ (fors_sig p secret public t i (md p digest)
    ++ ht_sig p secret public (compressed_roots p public t i (λ j. root (fors_tree p secret public t i j))) t i)

standard-own : (sk : Key) (start : List ℕ) → standard_at sk start sk.set ≡ signature_from sk start
standard-own sk start =
    let p = params sk.set in
    let digest = digest_in p start in
    ap (λ (ys : List ℕ). r_in p start ++ ys) (signed_parts sk digest (idx_tree p digest) (idx_leaf p digest) (md p digest) _ refl refl refl refl)

standard-given : (c : Levels) (sk : Key) (start bytes : List ℕ) → AreAnswers c sk start bytes → signature_given c sk start bytes ≡ standard_at sk start c.set
standard-given c sk start bytes are =
    let p = params_of c in
    let s = source c sk start in
    let a = answers_given c s bytes in
    let right = answers-right c sk start bytes are in
    let leaf = leaf_below p (digest_in p start) in
    ap (λ (xs : List ℕ). r_in p start ++ (xs ++ sig_ht_by s a)) (sig_fors-right s a leaf right)
    ∙ ap (λ (ys : List ℕ). r_in p start ++ (fors_sig p s.sk_seed s.pk_seed s.idx_tree s.idx_leaf s.md ++ ys)) (sig_ht-right s a leaf right)

-- the signature
pub signature-right : (c : Levels) (sk : Key) (start bytes : List ℕ) → sk.set ≡ c.set → AreAnswers c sk start bytes → signature_given c sk start bytes ≡ signature_from sk start
signature-right c sk start bytes same are = standard-given c sk start bytes are ∙ ap (standard_at sk start) (sym same) ∙ standard-own sk start

-- above the top layer stands the root of the key's top tree
top_given_root : (c : Levels) (sk : Key) (start bytes : List ℕ) → AreAnswers c sk start bytes
    → signed_by (source c sk start) (answers_given c (source c sk start) bytes) (params_of c).d ≡ root (xmss_tree (params_of c) (sk_seed sk) (pk_seed (public_of sk)) ((params_of c).d - 1) 0)
top_given_root c sk start bytes are =
    let p = params_of c in
    let s = source c sk start in
    let e = p.d - 1 in
    let last : e < p.d = omega (arith, d_low c.set) in
    let small : s.idx_tree < 2 ^ (p.hp * e) = subst (λ (k : ℕ). s.idx_tree < 2 ^ k) (h_below_top c.set) (idx_tree_lt p (digest_in p start)) in
    let none : (place_of s e).tree ≡ 0 = layer_place-tree p s.idx_tree s.idx_leaf e ∙ div-eq_of_lt small in
    ap (signed_by s (answers_given c s bytes)) (top_layer c.set)
    ∙ (answers-right c sk start bytes are).roots (Xmss e) last
    ∙ ap (λ (k : ℕ). root (xmss_tree p (sk_seed sk) (pk_seed (public_of sk)) e k)) none

-- the same, with the set apart from the key's
key_root_at : (sk : Key) (set : ParamSet) → sk.set ≡ set → IsGeneratedKey sk
    → root (xmss_tree (params set) (sk_seed sk) (pk_seed (public_of sk)) ((params set).d - 1) 0) ≡ pk_root (public_of sk)
unfolding IsGeneratedKey top_root
key_root_at sk set same gen =
    sym (subst (λ (s : ParamSet). pk_root (public_of sk) ≡ root (xmss_tree (params s) (sk_seed sk) (pk_seed (public_of sk)) ((params s).d - 1) 0)) same gen)

top_signed : (c : Levels) (sk : Key) (start bytes : List ℕ) → sk.set ≡ c.set → IsGeneratedKey sk → AreAnswers c sk start bytes
    → signed_by (source c sk start) (answers_given c (source c sk start) bytes) (params_of c).d ≡ pk_root (public_of sk)
top_signed c sk start bytes same gen are = top_given_root c sk start bytes are ∙ key_root_at sk c.set same gen

-- they fit together
pub answers_fit : (c : Levels) (sk : Key) (start bytes : List ℕ) → sk.set ≡ c.set → IsGeneratedKey sk → AreAnswers c sk start bytes → FitTogether c sk start bytes
answers_fit c sk start bytes same gen are =
    let p = params_of c in
    let s = source c sk start in
    let a = answers_given c s bytes in
    let right = answers-right c sk start bytes are in
    let leaf = leaf_below p (digest_in p start) in
    record {
      xmss_tags = λ n lt.
          let l = n / 2 ^ c.xmss in
          let r = n % 2 ^ c.xmss in
          let whole : l * 2 ^ c.xmss + r ≡ n = omega arith in
          let job : l * 2 ^ c.xmss + r ≡ 0 + (l * 2 ^ c.xmss + r) = omega arith in
          subst (λ (k : ℕ). tag_of c sk start (0 + k) (node_given (xmss_shape c) bytes k) ≡ tag_given (xmss_shape c) bytes k) whole
          (ap (λ (k : ℕ). tag_of c sk start k (node_given (xmss_shape c) bytes (l * 2 ^ c.xmss + r))) (sym job)
          ∙ tag-right _ (xmss_shape c) _ _ _ bytes (l * 2 ^ c.xmss) (tree_right c sk start bytes are (Xmss l) (tree_of_job n p.d c.xmss lt)) r (mod-lt n (pow_pos c.xmss)));
      fors_tags = λ n lt.
          let j = n / 2 ^ c.fors in
          let r = n % 2 ^ c.fors in
          let whole : j * 2 ^ c.fors + r ≡ n = omega arith in
          let job : xmss_jobs c + j * 2 ^ c.fors + r ≡ xmss_jobs c + (j * 2 ^ c.fors + r) = omega arith in
          subst (λ (k : ℕ). tag_of c sk start (xmss_jobs c + k) (node_given (fors_shape c) (fors_answers c bytes) k) ≡ tag_given (fors_shape c) (fors_answers c bytes) k) whole
          (ap (λ (k : ℕ). tag_of c sk start k (node_given (fors_shape c) (fors_answers c bytes) (j * 2 ^ c.fors + r))) (sym job)
          ∙ tag-right _ (fors_shape c) _ _ _ (fors_answers c bytes) (j * 2 ^ c.fors) (tree_right c sk start bytes are (Fors j) (tree_of_job n p.k c.fors lt)) r (mod-lt n (pow_pos c.fors)));
      fors = λ j lt.
          ap (fors_root p s.pk_seed s.idx_tree s.idx_leaf s.md j) (fors_part-right s a leaf right j lt)
          ∙ fors_root-part c.set s.sk_seed s.pk_seed s.idx_tree s.idx_leaf s.md j
          ∙ sym (right.roots (Fors j) lt);
      layers = λ l lt.
          let at : Place = place_of s l in
          ap (λ (m : List ℕ). xmss_pk_from_sig p s.pk_seed at m (layer_part_by s a l (signed_by s a l))) (signed-right s a leaf right l lt)
          ∙ ap (xmss_pk_from_sig p s.pk_seed at (signed_of s l)) (layer_part-right s a leaf right l lt)
          ∙ xmss_pk_from_sig-xmss_sig c.set s.sk_seed s.pk_seed at (signed_of s l) (layer_place-pair p s.idx_tree s.idx_leaf l leaf)
          ∙ ap (λ (k : ℕ). root (xmss_tree p s.sk_seed s.pk_seed k at.tree)) (layer_place-layer p s.idx_tree s.idx_leaf l)
          ∙ sym (right.roots (Xmss l) lt);
      top = top_signed c sk start bytes same gen are;
    }
