use Rattle.std.proofs.Common.{◌≡◌, ◌≤◌, ◌-◌, length, take}
use Rattle.std.specs.Io.KnownBytes.{Consumes}
use Rattle.slh_io.proofs.source.take_up_to.Given as goal

abbrev pub invariant-loop-at : goal.invariant-loop-at
invariant-loop-at g l = record {
  within : l.at ≤ length l.room;
  done : Consumes (g.S.Source.state l.fn.input).left (g.S.Source.state l.input).left (take l.at l.room);
  calm : (g.S.Source.state l.input).failures ≡ (g.S.Source.state l.fn.input).failures;
}

abbrev pub decreases-loop-at : goal.decreases-loop-at
decreases-loop-at g l = length l.room - l.at
