use Rattle.std.proofs.Common.{arith}
use Rattle.slh_params.proofs.Bounds.{sig_len_high}
use Rattle.slh_tool.proofs.verify.signature_in.Goals as goal

pub read_front-requires : goal.read_front-requires
read_front-requires g c = record { most = rw c.sig_len.ensures (omega (arith, sig_len_high c.set.result)) }
