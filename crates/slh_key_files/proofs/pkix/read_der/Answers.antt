use Rattle.std.proofs.Common.{arith, rules}
use Rattle.slh_key_files.proofs.DerReading.{accepts_der}
use Rattle.slh_key_files.proofs.pkix.read_der.Goals as goal

pub returns-in_err-kind-clause-accepted : goal.returns-in_err-kind-clause-accepted
returns-in_err-kind-clause-accepted c = accepts_der c.args.der.now _ (search rules) (λ i. grind (arith, c.type_inv.der i))

pub returns-in_err-set-clause-accepted : goal.returns-in_err-set-clause-accepted
returns-in_err-set-clause-accepted c = accepts_der c.args.der.now _ (search rules) (λ i. grind (arith, c.type_inv.der i))

pub returns-clause-accepted : goal.returns-clause-accepted
returns-clause-accepted c = accepts_der c.args.der.now _ (search rules) (λ i. grind (arith, c.type_inv.der i))
