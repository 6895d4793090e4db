use Rattle.std.proofs.Common.{[], ◌*◌, min}
use Rattle.slh_params.specs.ParamSet.{params}
use Rattle.slh_few.specs.ForsRoots.{root_given}
use Rattle.slh_few.specs.Chunks.{HasChunks}
use Rattle.slh_few.proofs.lanes.fors_climbs.put_first_roots.Given as goal

abbrev pub invariant-loop-turn : goal.invariant-loop-turn
invariant-loop-turn l =
    let p = params l.context.set in
    HasChunks p.n l.out (root_given p [] l.context.pk_seed.now l.idx_tree l.idx_leaf l.indices l.sig) (min (16 * l.turn) l.count)
