-- The answers of the jobs of a signature, in memory: ours.
use Rattle.std.specs.Prelude.{◌≡◌, ℕ, ◌<◌, List, [], ◌∷◌, if◌then◌else◌, length, Option, None, Some, slice_get, slice_index_or}
use Rattle.slh_params.specs.ParamSet.{params}
use Rattle.slh_core.specs.DigestParts.{idx_tree, idx_leaf, md}
use Rattle.slh_few.specs.declared.context.SigningContext.{SigningContext}
use Rattle.slh_tree.specs.Record.{KnownPath}
use Rattle.slh_tree.specs.declared.cover.Cover.{Cover}
use Rattle.slh_subtrees.specs.CutTrees.{CutTrees}
use Rattle.slh_subtrees.specs.Jobs.{signing_jobs}
use Rattle.slh_subtrees.specs.Gathered.{IsHashed}
use Rattle.slh_subtrees.specs.SigningTrees.{tree_in, leaf_in, checkpoints_in, signs_in}
use Rattle.slh_subtrees.specs.Trees.{TreeSource, checkpoints_of}
use Rattle.slh_subtrees.specs.declared.hashed_range.HashedRange.{HashedRange}
use Rattle.slh_subtrees.specs.declared.range.JobTree.{JobTree}
use Rattle.slh_subtrees.specs.declared.range.JobTree.TheVariants.{Xmss, Fors}
use Rattle.slh_subtrees.specs.declared.range.JobRange.{JobRange}
use Rattle.slh_subtrees.specs.declared.signing_trees.SigningTrees.{SigningTrees}

-- the cover and the record of a job's range
pub record IsAnswer (s : SigningTrees) (job : JobRange) (c : Cover) (r : KnownPath) : Type 0 where
  pub lo : c.lo ≡ job.lo
  pub hi : c.hi ≡ job.hi
  pub hashed : IsHashed (tree_in s job.tree) (leaf_in s job.tree) c r

-- the checkpoints of a job: those of the key that signs, if its leaf is in the range
abbrev pub range_checkpoints : SigningTrees → JobTree → ℕ → ℕ → Option (List ℕ)
range_checkpoints s (Xmss l) lo hi = (if signs_in s l lo hi then Some (checkpoints_in s l) else None)
range_checkpoints s (Fors j) lo hi = None

abbrev pub job_checkpoints : SigningTrees → JobRange → Option (List ℕ)
job_checkpoints s job = range_checkpoints s job.tree job.lo job.hi

-- an answer to the job of that number: the result of its range, and its checkpoints
abbrev pub IsRight : SigningTrees → CutTrees → ℕ → HashedRange × Option (List ℕ) → Type 0
IsRight s cut n x = (job : JobRange) → slice_get (signing_jobs cut) n ≡ Some job → IsAnswer s job x.0.cover x.0.path × (x.1 ≡ job_checkpoints s job)

-- the one, if there is one, as a list
abbrev pub as_list : {X : Type 0} → Option X → List X
as_list None = []
as_list (Some x) = x ∷ []

-- the covers and the records of all jobs of the signature, in the order of their numbers
pub record AreRangeAnswers (s : SigningTrees) (cut : CutTrees) (cs : List Cover) (rs : List KnownPath) : Type 0 where
  pub covers : length cs ≡ length (signing_jobs cut)
  pub records : length rs ≡ length (signing_jobs cut)
  pub each : (n : ℕ) (job : JobRange) (c : Cover) (r : KnownPath) → slice_get (signing_jobs cut) n ≡ Some job → IsAnswer s job (slice_index_or cs n c) (slice_index_or rs n r)

-- the checkpoints of the key that signs on each layer, from 0 on
pub record AreCheckpoints (s : TreeSource) (xs : List (List ℕ)) : Type 0 where
  pub len : length xs ≡ (params s.set).d
  pub each : (l : ℕ) (x : List ℕ) → l < (params s.set).d → slice_index_or xs l x ≡ checkpoints_of s l

-- the inputs of the trees of the signature of a digest
abbrev pub source_by : SigningContext → List ℕ → TreeSource
source_by signer digest =
    let p = params signer.public.set in
    record {
      set = signer.public.set;
      sk_seed = signer.sk_seed.now;
      pk_seed = signer.public.pk_seed.now;
      idx_tree = idx_tree p digest;
      idx_leaf = idx_leaf p digest;
      md = md p digest;
    }
