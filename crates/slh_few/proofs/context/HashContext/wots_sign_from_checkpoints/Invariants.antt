use Rattle.std.proofs.Common.{◌≡◌, ◌*◌, take}
use Rattle.slh_params.specs.ParamSet.{params}
use Rattle.slh_few.specs.Chunks.{end_to_end}
use Rattle.slh_few.specs.KeyCheckpoints.{chain_from_checkpoints}
use Rattle.slh_few.proofs.context.HashContext.wots_sign_from_checkpoints.Given as goal

abbrev pub invariant-loop-c : goal.invariant-loop-c
invariant-loop-c l = take (l.c * (params l.self.set).n) l.out
    ≡ end_to_end (chain_from_checkpoints (params l.self.set) l.self.pk_seed.now l.at l.checkpoints l.msg.items) l.c
