use Rattle.std.proofs.Common.{◌≡◌, ◌≤◌, ◌-◌, ◌+◌, ◌^◌}
use Rattle.slh_params.proofs.param_set.numbers.digit_count.Given as goal

abbrev pub invariant-loop-capacity : goal.invariant-loop-capacity
invariant-loop-capacity l = record {
  some : 1 ≤ l.count;
  few : l.count ≤ l.capacity;
  capacity : l.capacity ≡ l.base ^ l.count;
  below : l.base ^ (l.count - 1) ≤ l.number;
}

abbrev pub decreases-loop-capacity : goal.decreases-loop-capacity
decreases-loop-capacity l = l.number + 1 - l.capacity
