-- Where all answers of key generation are right, each node has its tag, and the root is the key's.
use Rattle.std.proofs.Common.{◌≡◌, ℕ, ◌+◌, ◌-◌, ◌^◌, ◌<◌, List, ◌++◌, length, take, drop, replicate, refl, ap, sym, subst, ◌∙◌, arith}
use Rattle.std.proofs.lemmas.List.{append_assoc, drop_at, take_all}
use Rattle.slh_params.proofs.Bounds.{n_high}
use Rattle.slh_hash.proofs.Lengths.{length-cut_hmac}
use Rattle.slh_tree.specs.Tree.{node}
use Rattle.slh_tree.proofs.Authentic.{node_width}
use Rattle.slh_few.specs.Trees.{xmss_tree-lawful}
use Rattle.slh_few.proofs.XmssLaw.{take_front}
use Rattle.slh_core.specs.Keys.{top_root}
use Rattle.slh_jobs.specs.KeyJobs.{key_shape, key_jobs, key_tree, key_tag, key_root, AreKeyAnswers, AreTagged}
use Rattle.slh_jobs.specs.Jobs.{params_of}
use Rattle.slh_jobs.specs.Tags.{OfKeyAnswer, tag_key, text}
use Rattle.slh_jobs.specs.Ranges.{below, node_given, tag_given}
use Rattle.slh_jobs.specs.declared.levels.Levels.{Levels}
use Rattle.slh_jobs.specs.declared.shape.Shape.{Shape}
use Rattle.slh_jobs.proofs.Right.{root-nodes}

-- the node of a job has n bytes
key_node_len : (c : Levels) (sk pk : List ℕ) (n : ℕ) → length (node (key_tree c sk pk) (below (key_shape c)) n) ≡ (params_of c).n
key_node_len c sk pk n = node_width (key_tree c sk pk) (xmss_tree-lawful c.set sk pk ((params_of c).d - 1) 0) (below (key_shape c)) n

-- the nodes are the ranges'
key_nodes : (c : Levels) (sk prf pk bytes : List ℕ) → AreKeyAnswers c sk prf pk bytes → (n : ℕ) → n < key_jobs c
    → node_given (key_shape c) bytes n ≡ node (key_tree c sk pk) (below (key_shape c)) n
key_nodes c sk prf pk bytes are n lt =
    let p = params_of c in
    let x = node (key_tree c sk pk) (below (key_shape c)) n in
    ap (λ (xs : List ℕ). take p.n (xs ++ replicate p.n 0)) (are n lt)
    ∙ ap (take p.n) (append_assoc x (key_tag c sk prf pk n x) (replicate p.n 0))
    ∙ take_front x (key_tag c sk prf pk n x ++ replicate p.n 0) p.n (key_node_len c sk pk n)

-- and have their tags
pub keys_tagged : (c : Levels) (sk prf pk bytes : List ℕ) → AreKeyAnswers c sk prf pk bytes → AreTagged c sk prf pk bytes
keys_tagged c sk prf pk bytes are n lt =
    let p = params_of c in
    let x = node (key_tree c sk pk) (below (key_shape c)) n in
    let read : tag_given (key_shape c) bytes n ≡ key_tag c sk prf pk n x =
    ap (λ (xs : List ℕ). take p.n (drop p.n xs)) (are n lt)
    ∙ ap (take p.n) (drop_at x (key_tag c sk prf pk n x) p.n (key_node_len c sk pk n))
    ∙ take_all p.n (key_tag c sk prf pk n x) (let size = length-cut_hmac p (tag_key sk prf pk) (text p (OfKeyAnswer c.xmss n x)) (n_high c.set) in omega (arith, size)) in
    ap (key_tag c sk prf pk n) (key_nodes c sk prf pk bytes are n lt) ∙ sym read

-- the root
pub key_root-right : (c : Levels) (sk prf pk bytes : List ℕ) → AreKeyAnswers c sk prf pk bytes → key_root c sk pk bytes ≡ top_root (params_of c) sk pk
unfolding top_root
key_root-right c sk prf pk bytes are =
    root-nodes (key_tree c sk pk) (key_shape c) bytes 0 c.xmss_high refl
    (λ r lt. let from : 0 + r ≡ r = omega arith in rw from (key_nodes c sk prf pk bytes are r lt))

-- the tags of the ranges, numbered from 0 on, in a shape that is the tree's
abbrev HasTag : Levels → List ℕ → List ℕ → List ℕ → List ℕ → Shape → ℕ → Type 0
HasTag c sk prf pk bytes s n = key_tag c sk prf pk n (node_given s bytes n) ≡ tag_given s bytes n

pub tagged_from : (c : Levels) (sk prf pk bytes : List ℕ) (s : Shape) → s ≡ key_shape c
    → ((r : ℕ) → r < 2 ^ s.levels → key_tag c sk prf pk (0 + r) (node_given s bytes (0 + r)) ≡ tag_given s bytes (0 + r)) → AreTagged c sk prf pk bytes
tagged_from c sk prf pk bytes s same all n lt =
    let from : 0 + n ≡ n = omega arith in
    subst (λ (x : Shape). HasTag c sk prf pk bytes x n) same
    (subst (HasTag c sk prf pk bytes s) from (all n (subst (λ (x : Shape). n < 2 ^ x.levels) (sym same) lt)))

pub tagged_to : (c : Levels) (sk prf pk bytes : List ℕ) (s : Shape) → s ≡ key_shape c → AreTagged c sk prf pk bytes
    → (r : ℕ) → r < 2 ^ s.levels → key_tag c sk prf pk (0 + r) (node_given s bytes (0 + r)) ≡ tag_given s bytes (0 + r)
tagged_to c sk prf pk bytes s same own r lt =
    let to : r ≡ 0 + r = omega arith in
    subst (λ (x : Shape). HasTag c sk prf pk bytes x (0 + r)) (sym same)
    (subst (HasTag c sk prf pk bytes (key_shape c)) to (own r (subst (λ (x : Shape). r < 2 ^ x.levels) same lt)))
