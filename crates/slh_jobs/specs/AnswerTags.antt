-- The tags of a signature's answers or of a key's, one at a time and eight at once: ours.
use Rattle.std.specs.Prelude.{◌≡◌, ℕ, ◌+◌, ◌<◌, List, [], ◌∷◌, ◌++◌, IfSome}
use Rattle.slh_params.specs.Params.{Params}
use Rattle.slh_hash.specs.Stream.{IsKeyed}
use Rattle.slh_lanes.specs.HmacLanes.{IsBegun}
use Rattle.slh_core.specs.Keys.{Key, sk_seed, sk_prf, public_of, pk_seed}
use Rattle.slh_jobs.specs.Jobs.{params_of}
use Rattle.slh_jobs.specs.Ranges.{node_given, tag_given}
use Rattle.slh_jobs.specs.Tags.{head, node_tag, tag_key}
use Rattle.slh_jobs.specs.declared.levels.Levels.{Levels}
use Rattle.slh_jobs.specs.declared.shape.Shape.{Shape}
use Rattle.slh_jobs.specs.declared.tag.AnswerTags.{AnswerTags}

-- the tags go on from this front of a text under this key, also eight at a time
abbrev pub AreBegun : AnswerTags → Params → List ℕ → List ℕ → Type 0
AreBegun t p key front = IsKeyed t.keyed p key front × IfSome t.lanes (λ lanes. (p.n ≡ 16) × IsBegun lanes key front)

-- the tags of a signature's answers, and of a key's
abbrev pub AreTagsOfAnswers : AnswerTags → Levels → Key → List ℕ → Type 0
AreTagsOfAnswers t c sk start =
    AreBegun t (params_of c) (tag_key (sk_seed sk) (sk_prf sk) (pk_seed (public_of sk))) (head 2 (params_of c) ++ start ++ (c.xmss ∷ c.fors ∷ []))

abbrev pub AreTagsOfKey : AnswerTags → Levels → List ℕ → List ℕ → List ℕ → Type 0
AreTagsOfKey t c sk_seed sk_prf pk_seed = AreBegun t (params_of c) (tag_key sk_seed sk_prf pk_seed) (head 3 (params_of c) ++ (c.xmss ∷ []))

-- the nodes of the answers from `first` on, as many as `count`, have the tags of the jobs from `job` on
abbrev pub HaveTags : Params → List ℕ → List ℕ → Shape → List ℕ → ℕ → ℕ → ℕ → Type 0
HaveTags p key front shape bytes job first count =
    (r : ℕ) → r < count → node_tag p key front (job + r) (node_given shape bytes (first + r)) ≡ tag_given shape bytes (first + r)
