use Rattle.std.proofs.Common.{length}
use Rattle.slh_params.specs.ParamSet.{params}
use Rattle.slh_few.specs.Xmss.{xmss_sig_len}
use Rattle.slh_few.proofs.Ends.{chunk_fits}
use Rattle.slh_few.proofs.lanes.hypertrees.put_ends_of.Goals as goal

pub chunk_at-sig-requires : goal.chunk_at-sig-requires
chunk_at-sig-requires c =
    let p = params c.args.set in
    rw c.xmss_sig_len.ensures.value (chunk_fits c.args.layer p.d (xmss_sig_len p) (length c.args.signature.now.sig.now) c.requires.layer c.requires.signature.3)
