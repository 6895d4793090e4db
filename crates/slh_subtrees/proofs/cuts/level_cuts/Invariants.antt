use Rattle.std.proofs.Common.{◌≡◌, ◌*◌, ◌-◌, map}
use Rattle.std.specs.List.{range_with_len}
use Rattle.slh_subtrees.proofs.cuts.level_cuts.Given as goal

abbrev pub invariant-loop-i : goal.invariant-loop-i
invariant-loop-i l = l.kept.items ≡ map (λ j. j * l.size) (range_with_len 1 (l.i - 1))
