use Rattle.slh_vectors.proofs.running.is_valid.Goals as goal

pub returns-in-External : goal.returns-in-External
returns-in-External c = rw (c.in-External.is, ← c.as_slice-message.ensures.value, ← c.as_slice-context.ensures.value) c.verify.ensures
