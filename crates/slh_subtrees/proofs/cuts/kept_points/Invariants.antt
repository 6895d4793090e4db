use Rattle.std.proofs.Common.{◌≡◌, ◌^◌, take, drop}
use Rattle.slh_subtrees.specs.Points.{first_bad}
use Rattle.slh_subtrees.proofs.cuts.kept_points.Given as goal

abbrev pub invariant-loop-point : goal.invariant-loop-point
invariant-loop-point l =
    record {
      kept : l.kept.items ≡ take l.point-index l.points;
      bad : first_bad (2 ^ l.height) l.before l.point-index (drop l.point-index l.points) ≡ first_bad (2 ^ l.height) 0 0 l.points;
    }
