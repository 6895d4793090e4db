-- The covers of the ranges of the top tree.
use Rattle.std.proofs.Common.{◌≡◌, ℕ, ◌-◌, ◌^◌, List, Some, length, get_or, ◌∙◌, ap}
use Rattle.std.specs.List.{slice_get}
use Rattle.std.proofs.lemmas.List.{length-map}
use Rattle.slh_params.specs.ParamSet.{params}
use Rattle.slh_tree.specs.Cover.{AreCovers}
use Rattle.slh_tree.specs.declared.cover.Cover.{Cover}
use Rattle.slh_few.specs.declared.context.SigningContext.{SigningContext}
use Rattle.slh_subtrees.specs.Points.{EndToEnd, ranges}
use Rattle.slh_subtrees.specs.CutTrees.{CutTrees}
use Rattle.slh_subtrees.specs.Jobs.{key_generation_jobs, tree_ranges}
use Rattle.slh_subtrees.specs.declared.range.JobTree.{JobTree}
use Rattle.slh_subtrees.specs.declared.range.JobTree.TheVariants.{Xmss}
use Rattle.slh_subtrees.specs.declared.range.JobRange.{JobRange}
use Rattle.slh_par.specs.TopTree.{top_tree, IsTopAnswer}
use Rattle.slh_subtrees.proofs.Numbered.{in_tree}
use Rattle.slh_par.proofs.Parts.{spans_tree, job_at}

-- they span it
pub top_covers :
    (s : SigningContext) (cut : CutTrees) (cs : List Cover) →
    cut.set ≡ s.public.set →
    EndToEnd 0 (2 ^ (params cut.set).hp) (ranges 0 cut.xmss (2 ^ (params cut.set).hp)) →
    length cs ≡ length (key_generation_jobs cut) →
    ((n : ℕ) (job : JobRange) (c : Cover) → slice_get (key_generation_jobs cut) n ≡ Some job → IsTopAnswer (top_tree s) job (get_or cs n c)) →
    AreCovers (top_tree s) 0 cs
top_covers s cut cs same ends count each =
    let tree : JobTree = Xmss ((params cut.set).d - 1) in
    let whole : 2 ^ (params cut.set).hp ≡ 2 ^ (params s.public.set).hp = ap (λ x. 2 ^ (params x).hp) same in
    spans_tree (top_tree s) 0 (2 ^ (params cut.set).hp) (tree_ranges cut tree) cs ends whole (count ∙ length-map (tree_ranges cut tree) (in_tree tree))
    (λ k r c read. let own = each k (in_tree tree r) c (job_at cut tree k r read) in record { lo = own.lo; hi = own.hi; cover = own.cover })
