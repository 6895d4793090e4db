use Rattle.std.proofs.Common.{◌≡◌, ℕ, ◌<◌, ◌++◌, List}
use Rattle.slh_params.specs.Address.{Address}
use Rattle.slh_params.specs.ParamSet.{params}
use Rattle.slh_hash.specs.Hash.{H}
use Rattle.slh_lanes.specs.Lanes.{HasAddress, group, value_at}
use Rattle.slh_lanes.proofs.Batches.{Done}
use Rattle.slh_lanes.proofs.seeded_lanes.SeededLanes.h.Given as goal

abbrev pub invariant-pairs : goal.invariant-pairs
invariant-pairs over l =
    Done (λ (i : ℕ) (y : List (List ℕ)). (j : ℕ) → j < 8
    → value_at y j 32 ≡ value_at (group l.initial.left i) j 16 ++ value_at (group l.right i) j 16) l.g l.initial.left l.left

abbrev pub invariant-groups : goal.invariant-groups
invariant-groups over l =
    Done (λ (i : ℕ) (y : List (List ℕ)). (j : ℕ) → j < 8 → (a : Address) → HasAddress (group l.adrs i) j a
    → let p = params l.self.set in
    value_at y j p.n ≡ H p l.self.pk_seed.now a (value_at (group l.initial.left i) j p.n) (value_at (group l.right i) j p.n)) l.g l.initial.left l.left
