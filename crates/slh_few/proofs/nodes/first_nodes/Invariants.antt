use Rattle.std.proofs.Common.{◌≡◌, length}
use Rattle.slh_few.specs.LaneValues.{HasValues}
use Rattle.slh_few.proofs.nodes.first_nodes.Given as goal

abbrev pub invariant-loop-j : goal.invariant-loop-j
invariant-loop-j l = record {
  len : length l.values.items ≡ l.j;
  values : HasValues l.values.items l.nodes l.n;
}
