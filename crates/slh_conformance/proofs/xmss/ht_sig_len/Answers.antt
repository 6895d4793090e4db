use Rattle.std.proofs.Common.{arith}
use Rattle.slh_conformance.proofs.Lengths.{ht_fits}
use Rattle.slh_conformance.proofs.xmss.ht_sig_len.Goals as goal

pub overflow_mul-result : goal.overflow_mul-result
overflow_mul-result c = rw (c.d.ensures, c.xmss_sig_len.ensures.value) (omega (arith, ht_fits c.args.set))
