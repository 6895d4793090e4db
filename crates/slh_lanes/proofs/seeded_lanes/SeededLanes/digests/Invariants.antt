use Rattle.std.proofs.Common.{◌≡◌, ℕ, ◌<◌, List}
use Rattle.slh_params.specs.Address.{Address}
use Rattle.slh_params.specs.ParamSet.{params}
use Rattle.slh_hash.specs.Hash.{tweaked_hash}
use Rattle.slh_hash.specs.HashFunctions.{SHA_256}
use Rattle.slh_lanes.specs.Lanes.{HasAddress, group, value_at}
use Rattle.slh_lanes.proofs.Batches.{Done}
use Rattle.slh_lanes.proofs.seeded_lanes.SeededLanes.digests.Given as goal

abbrev pub invariant-groups : goal.invariant-groups
invariant-groups over l =
    Done (λ (i : ℕ) (y : List (List ℕ)). (j : ℕ) → j < 8 → (a : Address) → HasAddress (group l.adrs i) j a
    → let p = params l.self.set in
    value_at y j p.n ≡ tweaked_hash SHA_256 p l.self.pk_seed.now a (value_at (group l.initial.x i) j l.len)) l.g l.initial.x l.x
