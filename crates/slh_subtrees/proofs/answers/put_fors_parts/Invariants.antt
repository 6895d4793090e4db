-- What the loop keeps: the parts and the roots that are written.
use Rattle.std.proofs.Common.{◌≡◌, ◌*◌, take}
use Rattle.slh_params.specs.ParamSet.{params}
use Rattle.slh_few.specs.Chunks.{end_to_end}
use Rattle.slh_few.specs.Fors.{fors_part_len}
use Rattle.slh_subtrees.specs.Assembled.{fors_part_by}
use Rattle.slh_subtrees.specs.declared.range.JobTree.TheVariants.{Fors}
use Rattle.slh_subtrees.proofs.answers.put_fors_parts.Given as goal

abbrev pub invariant-loop-j : goal.invariant-loop-j
invariant-loop-j g l =
    let a = g.A.Answers.says l.answers in
    let p = params l.set in
    (take (l.j * fors_part_len p) l.out ≡ end_to_end (fors_part_by a) l.j)
    × (take (l.j * p.n) l.roots ≡ end_to_end (λ j. a.root (Fors j)) l.j)
