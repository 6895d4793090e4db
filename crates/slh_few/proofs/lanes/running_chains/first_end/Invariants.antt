use Rattle.std.proofs.Common.{◌≡◌, ◌⊎◌, ℕ, ◌<◌, ◌≤◌, slice_index}
use Rattle.slh_few.specs.RunningChains.{running_at}
use Rattle.slh_few.proofs.lanes.running_chains.first_end.Given as goal

abbrev pub invariant-loop-g : goal.invariant-loop-g
invariant-loop-g over l = record {
  least : (i j : ℕ) → i < l.g → j < 8 → l.first.count ≤ slice_index (running_at l.running i).left j;
  found : (l.first.count ≡ 4294967295) ⊎ record {
    group : l.first.group < over.row.G;
    lane : l.first.lane < 8;
    count : slice_index (running_at l.running l.first.group).left l.first.lane ≡ l.first.count;
  };
}
