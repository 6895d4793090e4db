use Rattle.std.proofs.Common.{◌≡◌, ℕ, ◌*◌, ◌<◌}
use Rattle.slh_params.specs.ParamSet.{params}
use Rattle.slh_few.specs.KeyStreams.{HaveAbsorbedEnds}
use Rattle.slh_few.specs.Chunks.{chunk}
use Rattle.slh_few.proofs.lanes.keys.eight_keys.Given as goal

abbrev pub invariant-loop-pair : goal.invariant-loop-pair
invariant-loop-pair g l = record {
  absorbed : HaveAbsorbedEnds (params l.lanes.set) l.sk_seed l.lanes.pk_seed.now l.at (2 * l.pair) l.stream;
  stored : (i : ℕ) → i < 2 * l.pair → chunk (g.K.Stored.size l.store (params l.lanes.set)) l.out i
      ≡ g.K.Stored.stored l.store (params l.lanes.set) l.sk_seed l.lanes.pk_seed.now l.at i;
}
