-- What a layer signs has n bytes.
use Rattle.std.proofs.Common.{◌≡◌, ℕ, zero, suc, ◌*◌, ◌^◌, List, length, ap, sym, ◌∙◌}
use Rattle.slh_params.specs.ParamSet.{params}
use Rattle.slh_params.specs.declared.param_set.ParamSet.{ParamSet}
use Rattle.slh_params.proofs.Bounds.{n_high}
use Rattle.slh_hash.proofs.Lengths.{length-T}
use Rattle.slh_tree.proofs.Authentic.{node_width}
use Rattle.slh_few.specs.Trees.{xmss_tree-lawful}
use Rattle.slh_subtrees.specs.Assembled.{signed_by}
use Rattle.slh_subtrees.specs.Trees.{TreeSource, place_of, tree_of}
use Rattle.slh_subtrees.specs.declared.range.JobTree.TheVariants.{Xmss}
use Rattle.slh_jobs.specs.Jobs.{xmss_shape}
use Rattle.slh_jobs.specs.Joined.{answers_given}
use Rattle.slh_jobs.specs.Ranges.{upper_given}
use Rattle.slh_jobs.specs.UpperTrees.{upper-lawful}
use Rattle.slh_jobs.specs.declared.levels.Levels.{Levels}

pub length-signed : (c : Levels) (s : TreeSource) (bytes : List ℕ) → s.set ≡ c.set → (l : ℕ) → length (signed_by s (answers_given c s bytes) l) ≡ (params s.set).n
length-signed c s bytes same zero = length-T (params s.set) _ _ _ (n_high s.set)
length-signed c s bytes same (suc l) =
    let law = xmss_tree-lawful s.set s.sk_seed s.pk_seed l (place_of s l).tree in
    let width : (xmss_shape c).n ≡ (params s.set).n = ap (λ (x : ParamSet). (params x).n) (sym same) in
    node_width (upper_given (tree_of s (Xmss l)) (xmss_shape c) bytes (l * 2 ^ c.xmss))
    (upper-lawful (tree_of s (Xmss l)) law (xmss_shape c) bytes (l * 2 ^ c.xmss) width) c.xmss 0 ∙ width
