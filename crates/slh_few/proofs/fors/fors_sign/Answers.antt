use Rattle.slh_few.proofs.fors.fors_sign.Goals as goal

pub returns-clause-key : goal.returns-clause-key
returns-clause-key c = rw (c.new.ensures.set, c.new.ensures.sk_seed, c.new.ensures.pk_seed) at c.fors_sign.ensures.key
