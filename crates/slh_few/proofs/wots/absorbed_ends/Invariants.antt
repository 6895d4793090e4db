use Rattle.slh_params.specs.ParamSet.{params}
use Rattle.slh_hash.specs.Stream.{HasAbsorbed}
use Rattle.slh_few.specs.Chunks.{end_to_end}
use Rattle.slh_few.specs.Wots.{finished_chain, wots_address}
use Rattle.slh_few.proofs.wots.absorbed_ends.Given as goal

abbrev pub invariant-loop-c : goal.invariant-loop-c
invariant-loop-c l =
    let p = params l.context.set in
    let pk = l.context.pk_seed.now in
    ∥ HasAbsorbed l.stream p pk (wots_address l.at 1 0 0) (end_to_end (finished_chain p pk l.at l.msg.items l.sig) l.c) ∥₁
