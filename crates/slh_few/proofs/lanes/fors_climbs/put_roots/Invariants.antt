use Rattle.slh_params.specs.ParamSet.{params}
use Rattle.slh_lanes.specs.Lanes.{group, value_at}
use Rattle.slh_few.specs.ForsRoots.{AreGiven}
use Rattle.slh_few.proofs.lanes.fors_climbs.put_roots.Given as goal

abbrev pub invariant-loop-z : goal.invariant-loop-z
invariant-loop-z l =
    let p = params l.lanes.set in
    record {
      x : AreGiven p l.lanes.pk_seed.now l.indices l.sig l.x l.z (λ j. value_at (group l.nodes 0) j p.n);
      y : AreGiven p l.lanes.pk_seed.now l.indices l.sig l.y l.z (λ j. value_at (group l.nodes 1) j p.n);
    }
