use Rattle.std.proofs.Common.{◌≡◌, ℕ, ◌<◌, slice_index_or}
use Rattle.slh_params.specs.ParamSet.{params}
use Rattle.slh_few.specs.declared.hypertree.HtSignature.{HtSignature}
use Rattle.slh_lanes.specs.LaneSeeds.{HasSeedAt}
use Rattle.slh_few.specs.HtSignatures.{pk_seed_of}
use Rattle.slh_few.proofs.lanes.hypertrees.put_seeds.Given as goal

abbrev pub invariant-loop-j : goal.invariant-loop-j
invariant-loop-j l = record {
  set : params l.seeds.set ≡ params l.fn.set;
  seeds : (i : ℕ) (x : HtSignature) → i < l.j → HasSeedAt l.seeds i (pk_seed_of (slice_index_or l.signed i x));
}
