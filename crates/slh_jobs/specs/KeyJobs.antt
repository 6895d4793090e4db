-- The jobs of key generation, the ranges of the XMSS tree of the top layer, and their answers: ours.
use Rattle.std.specs.Prelude.{◌≡◌, ℕ, ◌-◌, ◌^◌, ◌<◌, List, [], ◌∷◌, ◌++◌}
use Rattle.slh_hash.specs.Stream.{IsKeyed}
use Rattle.slh_hash.specs.declared.category_hmac.CategoryHmac.{CategoryHmac}
use Rattle.slh_tree.specs.Tree.{MerkleTree, node, root}
use Rattle.slh_few.specs.Xmss.{xmss_tree}
use Rattle.slh_jobs.specs.Ranges.{below, given, node_given, tag_given, upper_given}
use Rattle.slh_jobs.specs.Jobs.{params_of}
use Rattle.slh_jobs.specs.Tags.{OfKeyAnswer, head, tag, tag_key}
use Rattle.slh_jobs.specs.declared.levels.Levels.{Levels}
use Rattle.slh_jobs.specs.declared.shape.Shape.{Shape}

-- how the tree is cut; an answer is a node and its tag
abbrev pub key_shape : Levels → Shape
key_shape c = let p = params_of c in record { n = p.n; height = p.hp; levels = c.xmss; own = 0 }

abbrev pub key_jobs : Levels → ℕ
key_jobs c = 2 ^ c.xmss

-- the tree, of SK.seed and PK.seed
abbrev pub key_tree : Levels → List ℕ → List ℕ → MerkleTree
key_tree c sk_seed pk_seed = xmss_tree (params_of c) sk_seed pk_seed ((params_of c).d - 1) 0

-- the tag of the node that job n answers
abbrev pub key_tag : Levels → List ℕ → List ℕ → List ℕ → ℕ → List ℕ → List ℕ
key_tag c sk_seed sk_prf pk_seed n node = tag (params_of c) sk_seed sk_prf pk_seed (OfKeyAnswer c.xmss n node)

-- the HMAC has the key of the tags, and the part before the number of the text of an answer's tag
abbrev pub HoldsKeyFront : CategoryHmac → Levels → List ℕ → List ℕ → List ℕ → Type 0
HoldsKeyFront hmac c sk_seed sk_prf pk_seed = IsKeyed hmac (params_of c) (tag_key sk_seed sk_prf pk_seed) (head 3 (params_of c) ++ (c.xmss ∷ []))

-- the answer of job n
abbrev pub key_answer : Levels → List ℕ → List ℕ → List ℕ → ℕ → List ℕ
key_answer c sk_seed sk_prf pk_seed n =
    let x = node (key_tree c sk_seed pk_seed) (below (key_shape c)) n in
    x ++ key_tag c sk_seed sk_prf pk_seed n x

-- the bytes are the answers of all jobs, end to end
abbrev pub AreKeyAnswers : Levels → List ℕ → List ℕ → List ℕ → List ℕ → Type 0
AreKeyAnswers c sk_seed sk_prf pk_seed bytes = (n : ℕ) → n < key_jobs c → given (key_shape c) bytes n ≡ key_answer c sk_seed sk_prf pk_seed n

-- the root that answers give, whatever bytes they are
abbrev pub key_root : Levels → List ℕ → List ℕ → List ℕ → List ℕ
key_root c sk_seed pk_seed bytes = root (upper_given (key_tree c sk_seed pk_seed) (key_shape c) bytes 0)

-- each node has its tag
abbrev pub AreTagged : Levels → List ℕ → List ℕ → List ℕ → List ℕ → Type 0
AreTagged c sk_seed sk_prf pk_seed bytes = (n : ℕ) → n < key_jobs c → key_tag c sk_seed sk_prf pk_seed n (node_given (key_shape c) bytes n) ≡ tag_given (key_shape c) bytes n
