-- The view of an `AllAnswers`: ours.
use Rattle.std.specs.Prelude.{ℕ, ◌*◌, List}
use Rattle.slh_params.specs.Params.{Params}
use Rattle.slh_params.specs.ParamSet.{params}
use Rattle.slh_subtrees.specs.Assembled.{TreeAnswers}
use Rattle.slh_subtrees.specs.SigningTrees.{source_of}
use Rattle.slh_subtrees.specs.Trees.{TreeSource}
use Rattle.slh_subtrees.specs.declared.range.JobTree.TheVariants.{Xmss}
use Rattle.slh_jobs.specs.Joined.{answers_given}
use Rattle.slh_jobs.specs.declared.all_answers.AllAnswers.{AllAnswers}

-- the parameters, the inputs of its trees, and the values that its answers give for them
abbrev pub params_in : AllAnswers → Params
params_in x = params x.signing.trees.signer.now.public.set

abbrev pub source_in : AllAnswers → TreeSource
source_in x = source_of x.signing.trees

abbrev pub answers_in : AllAnswers → TreeAnswers
answers_in x = answers_given x.signing.levels (source_in x) x.xmss.bytes.now

-- the path of layer l's leaf, and its length
abbrev pub path_in : AllAnswers → ℕ → List ℕ
path_in x l = (answers_in x).path (Xmss l)

abbrev pub path_len_in : AllAnswers → ℕ
path_len_in x = (params_in x).hp * (params_in x).n
