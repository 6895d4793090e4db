use Rattle.std.proofs.Common.{◌≡◌}
use Rattle.slh_vectors.proofs.PutLines.{PutSoFar}
use Rattle.slh_vectors.proofs.lines.put_lines.Given as goal

abbrev pub invariant-loop-i : goal.invariant-loop-i
invariant-loop-i g l = record {
  done : PutSoFar (g.W.Sink.state l.fn.output).contents (g.W.Sink.state l.output).contents l.tests l.outcomes l.i;
  calm : (g.W.Sink.state l.output).failures ≡ (g.W.Sink.state l.fn.output).failures;
}
