use Rattle.slh_tool.proofs.keys.public.Goals as goal

pub returns-clause-done : goal.returns-clause-done
returns-clause-done g c = (c.in_ok-key.key, c.in_ok-key.ensures.done, rw c.public.ensures at c.in-Ok.ensures.written)
