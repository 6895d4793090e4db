use Rattle.std.proofs.Common.{Some, refl, ap}
use Rattle.slh_params.specs.ParamSet.{S128s, S128f, S192s, S192f, S256s, S256f, is}
use Rattle.slh_params.proofs.Same.{is-same}
use Rattle.slh_key_files.specs.Pkix.{set_of_arc}
use Rattle.slh_key_files.proofs.pkix.set_of_arc.Goals as goal

pub returns-in-20-clause-set : goal.returns-in-20-clause-set
unfolding set_of_arc is
returns-in-20-clause-set c = rw c.in-20.is (ap Some (is-same _ S128s refl))

pub returns-in-21-clause-set : goal.returns-in-21-clause-set
unfolding set_of_arc is
returns-in-21-clause-set c = rw c.in-21.is (ap Some (is-same _ S128f refl))

pub returns-in-22-clause-set : goal.returns-in-22-clause-set
unfolding set_of_arc is
returns-in-22-clause-set c = rw c.in-22.is (ap Some (is-same _ S192s refl))

pub returns-in-23-clause-set : goal.returns-in-23-clause-set
unfolding set_of_arc is
returns-in-23-clause-set c = rw c.in-23.is (ap Some (is-same _ S192f refl))

pub returns-in-24-clause-set : goal.returns-in-24-clause-set
unfolding set_of_arc is
returns-in-24-clause-set c = rw c.in-24.is (ap Some (is-same _ S256s refl))

pub returns-in-25-clause-set : goal.returns-in-25-clause-set
unfolding set_of_arc is
returns-in-25-clause-set c = rw c.in-25.is (ap Some (is-same _ S256f refl))
