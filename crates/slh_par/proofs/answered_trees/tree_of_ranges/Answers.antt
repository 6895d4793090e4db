-- The tree's jobs are those from its first one on, and their covers and records are in the same places.
use Rattle.std.proofs.Common.{List, take, drop, arith, sym, subst}
use Rattle.slh_tree.specs.Record.{KnownPath}
use Rattle.slh_tree.specs.declared.cover.Cover.{Cover}
use Rattle.slh_subtrees.specs.Gathered.{AreHashed}
use Rattle.slh_subtrees.specs.SigningTrees.{tree_in, leaf_in}
use Rattle.slh_par.proofs.Parts.{AreJobsOf, jobs_fit, tree_hashed}
use Rattle.slh_par.proofs.answered_trees.tree_of_ranges.Goals as goal
use Rattle.slh_par.proofs.answered_trees.tree_of_ranges.Goals.{After-range_count-count}

-- the jobs that the two calls found
jobs : (c : After-range_count-count) → AreJobsOf c.args.cutting.now c.args.tree c.first_job-first.result c.range_count-count.result
jobs c = record {
  at = c.first_job-first.ensures.ranges;
  all = c.range_count-count.ensures.count;
  some = c.range_count-count.ensures.some;
  ends = c.range_count-count.ensures.end_to_end;
}

pub part-requires : goal.part-requires
part-requires c =
    omega (arith, jobs_fit _ _ _ _ _ _ _ c.requires.set c.requires.answers (jobs (goal.at.part-requires c).After-range_count-count), c.requires.answers.covers)

pub part-requires-2 : goal.part-requires-2
part-requires-2 c =
    omega (arith, jobs_fit _ _ _ _ _ _ _ c.requires.set c.requires.answers (jobs (goal.at.part-requires-2 c).After-range_count-count), c.requires.answers.records)

pub gathered-requires-clause-hashed : goal.gathered-requires-clause-hashed
gathered-requires-clause-hashed c =
    let s = c.args.trees.now in
    let own = tree_hashed _ _ _ _ _ _ _ c.requires.set c.requires.answers (jobs (goal.at.gathered-requires-clause-hashed c).After-range_count-count) in
    let Covers : List Cover → Type 0 = λ cs. AreHashed (tree_in s c.args.tree) (leaf_in s c.args.tree) cs (take c.range_count-count.result (drop c.first_job-first.result c.args.records.now)) in
    let Records : List KnownPath → Type 0 = λ rs. AreHashed (tree_in s c.args.tree) (leaf_in s c.args.tree) c.part.result.now rs in
    subst Records (sym c.part-2.ensures) (subst Covers (sym c.part.ensures) own)
