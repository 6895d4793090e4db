use Rattle.std.proofs.Common.{rules}
use Rattle.slh_workers.proofs.items.answer_run.Goals as goal

pub returns-in-Ok : goal.returns-in-Ok
returns-in-Ok g c = record {
  len = search rules;
  each = λ i item answer h. c.in-Ok.ensures.right i answer (search rules) item;
}
