-- Range r goes from point r - 1 to point r.
use Rattle.std.proofs.Common.{arith, ap, length, get_or, refl, ◌∙◌, ◌++◌, ◌∷◌, [], ◌^◌}
use Rattle.slh_params.specs.ParamSet.{params}
use Rattle.slh_params.specs.declared.param_set.ParamSet.{ParamSet}
use Rattle.slh_subtrees.specs.Jobs.{height_of}
use Rattle.slh_subtrees.proofs.Numbered.{length-tree_jobs, range-between}
use Rattle.slh_subtrees.proofs.cutting.Cutting.job_in.Goals as goal

pub range_start-requires : goal.range_start-requires
range_start-requires c =
    omega (arith, c.requires, length-tree_jobs c.args.self.now c.args.tree, ap length c.points-points.ensures.points)

pub range_end-requires-clause-there : goal.range_end-requires-clause-there
range_end-requires-clause-there c =
    omega (arith, c.requires, length-tree_jobs c.args.self.now c.args.tree, ap length c.points-points.ensures.points)

pub returns : goal.returns
returns c =
    let range = range-between c.args.self.now c.args.tree c.points-points.result.now c.args.r c.range_start.result c.range_end.result
    c.points-points.ensures.points c.points-points.ensures.end_to_end c.requires c.range_start.ensures
    (c.range_end.ensures ∙ ap (λ v. get_or (c.points-points.result.now ++ 2 ^ v ∷ []) c.args.r 0) (c.height.ensures.value ∙ ap (λ (s : ParamSet). height_of (params s) c.args.tree) c.set.ensures)) in
    record { tree = refl; leaves = range.leaves; job = range.job; some = range.some; within = range.within }
