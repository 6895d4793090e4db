use Rattle.std.proofs.Common.{arith, rules, ◌≡◌, ◌∙◌, sym, ap, Some}
use Rattle.std.proofs.lemmas.Grind.{common_steps}
use Rattle.slh_subtrees.proofs.FirstBad.{bad_late, bad_low, bad_high}
use Rattle.slh_subtrees.proofs.cuts.kept_points.Goals as goal
use Rattle.slh_subtrees.proofs.cuts.kept_points.Goals.{then-at-ge-MOST_POINTS-via-then-at-ge-MOST_POINTS, then-at-ge-MOST_POINTS-via-else-at-ge-MOST_POINTS+then-point-before, then-at-ge-MOST_POINTS-via-else-at-ge-MOST_POINTS+else-point-before+then-point-leaves}

pub returns-then-at-ge-MOST_POINTS : goal.returns-then-at-ge-MOST_POINTS
returns-then-at-ge-MOST_POINTS c =
    let same : c.len-at.result ≡ c.loop-point.point-index = search (rules, common_steps) in
    sym c.loop-point.invariant.bad ∙
    elim c.then-at-ge-MOST_POINTS.branch [
      | then-at-ge-MOST_POINTS-via-then-at-ge-MOST_POINTS w ↦ bad_late _ _ _ _ (omega arith) (omega arith) ∙ ap Some (sym same)
      | then-at-ge-MOST_POINTS-via-else-at-ge-MOST_POINTS+then-point-before w ↦ bad_low _ _ _ _ (omega arith) (omega arith) (omega arith) ∙ ap Some (sym same)
      | then-at-ge-MOST_POINTS-via-else-at-ge-MOST_POINTS+else-point-before+then-point-leaves w ↦ bad_high _ _ _ _ (omega arith) (omega arith) (omega arith) (omega arith) ∙ ap Some (sym same)
    ]
