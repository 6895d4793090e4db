use Rattle.std.proofs.Common.{◌≡◌, ◌≤◌, ◌-◌, length}
use Rattle.slh_c.specs.Many.{AreVerdictsTo}
use Rattle.slh_c.proofs.many.put_verdicts.Given as goal

abbrev pub invariant-loop-at : goal.invariant-loop-at
invariant-loop-at l = record {
  within : l.at ≤ length l.items;
  room : length l.verdicts ≡ length l.items;
  verdicts : AreVerdictsTo l.at l.set l.items l.verdicts;
}

abbrev pub decreases-loop-at : goal.decreases-loop-at
decreases-loop-at l = length l.items - l.at
