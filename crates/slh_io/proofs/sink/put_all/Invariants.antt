use Rattle.std.proofs.Common.{◌≡◌, ◌≤◌, ◌-◌, length, take}
use Rattle.std.specs.Io.KnownBytes.{Appends}
use Rattle.slh_io.proofs.sink.put_all.Given as goal

abbrev pub invariant-loop-at : goal.invariant-loop-at
invariant-loop-at g l = record {
  within : l.at ≤ length l.bytes;
  done : Appends (g.W.Sink.state l.fn.output).contents (g.W.Sink.state l.output).contents (take l.at l.bytes);
  calm : (g.W.Sink.state l.output).failures ≡ (g.W.Sink.state l.fn.output).failures;
}

abbrev pub decreases-loop-at : goal.decreases-loop-at
decreases-loop-at g l = length l.bytes - l.at
