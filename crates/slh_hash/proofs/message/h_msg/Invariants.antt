use Rattle.std.proofs.Common.{take}
use Rattle.slh_params.specs.ParamSet.{params}
use Rattle.slh_hash.specs.Keyed.{joined}
use Rattle.slh_hash.specs.Stream.{HasMessage}
use Rattle.slh_hash.proofs.message.h_msg.Given as goal

abbrev pub invariant-loop-part : goal.invariant-loop-part
invariant-loop-part l =
    HasMessage l.hash (params l.fn.set) l.r l.pk_seed l.pk_root (joined (take l.part-index l.parts))
