use Rattle.std.proofs.Common.{◌≡◌}
use Rattle.std.specs.List.{flat_map}
use Rattle.slh_workers.proofs.batches.end_to_end.Given as goal

abbrev pub invariant-loop-list : goal.invariant-loop-list
invariant-loop-list g l =
    (goal.iterator-loop-list g).can_next l.list-iterator
    × (goal.iterator-loop-list g).is_finite l.list-iterator
    × (l.all.items ≡ flat_map (λ list. list.items) l.yielded)
