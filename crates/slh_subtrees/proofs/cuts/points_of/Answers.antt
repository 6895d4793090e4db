-- Levels and points are refused exactly where the definition has a fault.
use Rattle.std.proofs.Common.{arith, ◌∙◌, sym, subst, refl}
use Rattle.slh_subtrees.specs.CutFaults.{IsInRule}
use Rattle.slh_subtrees.proofs.Levels.{levels_good}
use Rattle.slh_subtrees.proofs.Rising.{rising-points, points-rising}
use Rattle.slh_subtrees.proofs.cuts.points_of.Goals as goal

pub returns-then-level-le-MOST_LEVELS-clause-good : goal.returns-then-level-le-MOST_LEVELS-clause-good
returns-then-level-le-MOST_LEVELS-clause-good c = rw c.level_cuts.ensures (levels_good c.args.height c.in-Levels.level (omega arith) (omega arith))

pub returns-in-Ok-clause-in_rule : goal.returns-in-Ok-clause-in_rule
returns-in-Ok-clause-in_rule c = (λ _. rw c.in-Points.is (rising-points c.args.height _ c.in-Ok.ensures.1), λ _. refl)

pub returns-in-Err-clause-in_rule : goal.returns-in-Err-clause-in_rule
returns-in-Err-clause-in_rule c = (
  λ is. absurd cc,
  λ rule.
      let points = subst (λ v. IsInRule c.args.height v) c.in-Points.is rule in
      let clash = sym (points-rising c.args.height _ points.0 points.1) ∙ c.in-Err.ensures in
      absurd cc,
)
