-- The answers of the jobs apart: each range's in its place, and the checkpoints of chains by layers.
use Rattle.slh_par.proofs.SplitAnswers.{answers_split}
use Rattle.slh_par.proofs.Checkpoints.{checkpoints_right}
use Rattle.slh_par.proofs.answered_trees.AnsweredTrees.new.Goals as goal

pub invariant_of-result-clause-all_answers : goal.invariant_of-result-clause-all_answers
invariant_of-result-clause-all_answers g c =
    ∣ answers_split c.args.trees.now c.args.cutting.now c.args.answers.items c.in_ok-covers.covers.items c.in_ok-covers.records.items c.requires.count
    c.requires.right c.in_ok-covers.ensures.0 c.in_ok-covers.ensures.1 ∣₁

pub invariant_of-result-clause-all_chains : goal.invariant_of-result-clause-all_chains
invariant_of-result-clause-all_chains g c =
    ∣ checkpoints_right c.args.trees.now c.args.cutting.now c.args.answers.items c.in_ok-covers.chains.items c.requires.count
    c.requires.right c.requires.set c.xmss_ranges-ranges.ensures.end_to_end c.in_ok-covers.ensures.2 ∣₁
