use Rattle.std.proofs.Common.{◌≡◌, ℕ, ◌<◌, List, slice_index}
use Rattle.slh_params.specs.Address.{Address}
use Rattle.slh_params.specs.ParamSet.{params}
use Rattle.slh_lanes.specs.Lanes.{HasAddress, group, value_at}
use Rattle.slh_lanes.specs.Steps.{steps}
use Rattle.slh_lanes.proofs.Batches.{Done}
use Rattle.slh_lanes.proofs.seeded_lanes.SeededLanes.chains_each.Given as goal

abbrev pub invariant-groups : goal.invariant-groups
invariant-groups over l =
    Done (λ (i : ℕ) (y : List (List ℕ)). (j : ℕ) → j < 8 → (a : Address) → HasAddress (group l.adrs i) j a
    → let p = params l.self.set in
    value_at y j p.n ≡ steps p l.self.pk_seed.now a (value_at (group l.initial.x i) j p.n)
    (slice_index (group l.from i) j) (slice_index (group l.counts i) j)) l.g l.initial.x l.x
