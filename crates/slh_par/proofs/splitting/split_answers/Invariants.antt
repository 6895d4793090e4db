-- What the loop keeps: covers, records and checkpoints are those of the ranges so far, in their order.
use Rattle.std.proofs.Common.{◌≡◌, ◌++◌, map}
use Rattle.std.specs.List.{flat_map}
use Rattle.std.specs.Vec.Iter.{into_iter_items}
use Rattle.slh_par.specs.JobAnswers.{as_list}
use Rattle.slh_par.proofs.splitting.split_answers.Given as goal

abbrev pub invariant-loop-answer : goal.invariant-loop-answer
invariant-loop-answer g l =
    record {
      can : (goal.iterator-loop-answer g).can_next l.answer-iterator;
      ends : (goal.iterator-loop-answer g).is_finite l.answer-iterator;
      seen : l.yielded ++ into_iter_items l.answer-iterator ≡ l.fn.answers.items;
      covers : l.covers.items ≡ map (λ x. x.0.cover) l.yielded;
      records : l.records.items ≡ map (λ x. x.0.path) l.yielded;
      checkpoints : l.checkpoints.items ≡ flat_map (λ x. as_list x.1) l.yielded;
    }
