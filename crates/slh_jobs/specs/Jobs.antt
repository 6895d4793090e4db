-- The jobs of a signature, the ranges of its trees, and their answers: ours.
use Rattle.std.specs.Prelude.{◌≡◌, ℕ, ◌+◌, ◌-◌, ◌*◌, ◌/◌, ◌%◌, ◌^◌, ◌<◌, nat_lt, if◌then◌else◌, List, [], ◌∷◌, ◌++◌, take, drop}
use Rattle.slh_params.specs.Params.{Params, m}
use Rattle.slh_params.specs.ParamSet.{params}
use Rattle.slh_hash.specs.Stream.{IsKeyed}
use Rattle.slh_hash.specs.declared.category_hmac.CategoryHmac.{CategoryHmac}
use Rattle.slh_tree.specs.Cover.{first_leaf, past_leaf}
use Rattle.slh_few.specs.KeyCheckpoints.{key_checkpoints_len}
use Rattle.slh_core.specs.DigestParts.{md, idx_tree, idx_leaf}
use Rattle.slh_core.specs.Keys.{Key, sk_seed, sk_prf, public_of, pk_seed}
use Rattle.slh_subtrees.specs.CutTrees.{CutTrees}
use Rattle.slh_subtrees.specs.Points.{level_points}
use Rattle.slh_subtrees.specs.Trees.{TreeSource, tree_of, leaf_of, secret_of, checkpoints_of}
use Rattle.slh_subtrees.specs.declared.range.JobTree.{JobTree}
use Rattle.slh_subtrees.specs.declared.range.JobTree.TheVariants.{Xmss, Fors}
use Rattle.slh_subtrees.specs.declared.range.JobRange.{JobRange}
use Rattle.slh_jobs.specs.Ranges.{below, answer_len, range_answer}
use Rattle.slh_jobs.specs.Tags.{OfAnswer, head, tag, tag_key}
use Rattle.slh_jobs.specs.declared.levels.Levels.{Levels}
use Rattle.slh_jobs.specs.declared.shape.Shape.{Shape}

-- the numbers of the set
abbrev pub params_of : Levels → Params
params_of c = params c.set

-- How the XMSS trees and the FORS trees are cut. After the path stand values of the chains of the WOTS+ key that signs,
-- or the FORS secret.
abbrev pub xmss_shape : Levels → Shape
xmss_shape c =
    let p = params_of c in
    record { n = p.n; height = p.hp; levels = c.xmss; own = (p.hp - c.xmss) * p.n + key_checkpoints_len p }

abbrev pub fors_shape : Levels → Shape
fors_shape c =
    let p = params_of c in
    record { n = p.n; height = p.a; levels = c.fors; own = (p.a - c.fors) * p.n + p.n }

abbrev pub shape_of : Levels → JobTree → Shape
shape_of c (Xmss l) = xmss_shape c
shape_of c (Fors j) = fors_shape c

-- the jobs: first the ranges of the XMSS trees, from layer 0 on, and then those of the FORS trees
abbrev pub xmss_jobs : Levels → ℕ
xmss_jobs c = (params_of c).d * 2 ^ c.xmss

abbrev pub fors_jobs : Levels → ℕ
fors_jobs c = (params_of c).k * 2 ^ c.fors

abbrev pub jobs : Levels → ℕ
jobs c = xmss_jobs c + fors_jobs c

-- the first job of a tree, and the same counted among those of the trees of its kind
abbrev pub first_job : Levels → JobTree → ℕ
first_job c (Xmss l) = l * 2 ^ c.xmss
first_job c (Fors j) = xmss_jobs c + j * 2 ^ c.fors

abbrev pub first_of_kind : Levels → JobTree → ℕ
first_of_kind c (Xmss l) = l * 2 ^ c.xmss
first_of_kind c (Fors j) = j * 2 ^ c.fors

-- the tree of job n, and the range of it
abbrev pub tree_at : Levels → ℕ → JobTree
tree_at c n = if nat_lt n (xmss_jobs c) then Xmss (n / 2 ^ c.xmss) else Fors ((n - xmss_jobs c) / 2 ^ c.fors)

abbrev pub range_at : Levels → ℕ → ℕ
range_at c n = if nat_lt n (xmss_jobs c) then n % 2 ^ c.xmss else (n - xmss_jobs c) % 2 ^ c.fors

-- The cutting that the levels are, and job n as one of this cutting's jobs
abbrev pub cut_by : Levels → CutTrees
cut_by c = record { set = c.set; xmss = level_points (params_of c).hp c.xmss; fors = level_points (params_of c).a c.fors }

abbrev pub job_at : Levels → ℕ → JobRange
job_at c n =
    let z = below (shape_of c (tree_at c n)) in
    record { tree = tree_at c n; lo = first_leaf z (range_at c n); hi = past_leaf z (range_at c n) }

-- the place of a job's answer among all answers end to end, and its length
abbrev pub start_of : Levels → ℕ → ℕ
start_of c n =
    if nat_lt n (xmss_jobs c) then n * answer_len (xmss_shape c)
    else xmss_jobs c * answer_len (xmss_shape c) + (n - xmss_jobs c) * answer_len (fors_shape c)

abbrev pub len_of : Levels → ℕ → ℕ
len_of c n = if nat_lt n (xmss_jobs c) then answer_len (xmss_shape c) else answer_len (fors_shape c)

-- the length of all answers
abbrev pub answers_len : Levels → ℕ
answers_len c = xmss_jobs c * answer_len (xmss_shape c) + fors_jobs c * answer_len (fors_shape c)

-- Throughout, `start` is R, the digest of a message and their tag, end to end.
abbrev pub r_in : Params → List ℕ → List ℕ
r_in p start = take p.n start

abbrev pub digest_in : Params → List ℕ → List ℕ
digest_in p start = take (m p) (drop p.n start)

-- the inputs of the trees of the signature
abbrev pub source : Levels → Key → List ℕ → TreeSource
source c sk start =
    let p = params_of c in
    let digest = digest_in p start in
    record {
      set = c.set;
      sk_seed = sk_seed sk;
      pk_seed = pk_seed (public_of sk);
      idx_tree = idx_tree p digest;
      idx_leaf = idx_leaf p digest;
      md = md p digest;
    }

-- the tag of the node that job n answers
abbrev pub tag_of : Levels → Key → List ℕ → ℕ → List ℕ → List ℕ
tag_of c sk start n node =
    tag (params_of c) (sk_seed sk) (sk_prf sk) (pk_seed (public_of sk)) (OfAnswer start c.xmss c.fors n node)

-- the HMAC has the key of the tags, and the part before the number of the text of an answer's tag
abbrev pub HoldsFront : CategoryHmac → Levels → Key → List ℕ → Type 0
HoldsFront hmac c sk start =
    IsKeyed hmac (params_of c) (tag_key (sk_seed sk) (sk_prf sk) (pk_seed (public_of sk)))
    (head 2 (params_of c) ++ start ++ (c.xmss ∷ c.fors ∷ []))

-- the part after the path, in the answer of the range of the leaf that signs: the checkpoints of the leaf's key, or the
-- secret
abbrev pub rest_of : TreeSource → JobTree → List ℕ
rest_of s (Xmss l) = checkpoints_of s l
rest_of s (Fors j) = secret_of s j

-- the length of this
abbrev pub rest_len : Params → JobTree → ℕ
rest_len p (Xmss l) = key_checkpoints_len p
rest_len p (Fors j) = p.n

-- the answer of range r of a tree, if `tag` gives the tag of a job's node
abbrev pub tree_answer : Levels → TreeSource → (ℕ → List ℕ → List ℕ) → JobTree → ℕ → List ℕ
tree_answer c s tag tree r =
    range_answer (tree_of s tree) (shape_of c tree) (leaf_of s tree) (rest_of s tree) (tag (first_job c tree + r)) r

-- the answer of job n
abbrev pub answer_of : Levels → Key → List ℕ → ℕ → List ℕ
answer_of c sk start n = tree_answer c (source c sk start) (tag_of c sk start) (tree_at c n) (range_at c n)

-- the bytes are the answers of all jobs, end to end
abbrev pub AreAnswers : Levels → Key → List ℕ → List ℕ → Type 0
AreAnswers c sk start bytes = (n : ℕ) → n < jobs c → take (len_of c n) (drop (start_of c n) bytes) ≡ answer_of c sk start n
