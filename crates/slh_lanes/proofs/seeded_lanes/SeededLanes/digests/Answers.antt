use Rattle.std.proofs.Common.{◌≡◌, ℕ, ◌<◌, List, arith, refl, ap, ◌∙◌}
use Rattle.slh_params.specs.Address.{Address}
use Rattle.slh_params.specs.ParamSet.{params}
use Rattle.slh_params.proofs.Bounds.{n_high}
use Rattle.slh_hash.specs.Hash.{tweaked_hash}
use Rattle.slh_hash.specs.HashFunctions.{SHA_256}
use Rattle.slh_lanes.specs.Lanes.{HasAddress, group, value_at}
use Rattle.slh_lanes.proofs.Batches.{done_next}
use Rattle.slh_lanes.proofs.seeded_lanes.SeededLanes.digests.Goals as goal

pub groups-init : goal.groups-init
groups-init over c = (refl, λ i lt. absurd (omega (arith, lt)), λ i ge. refl)

pub groups-preserved : goal.groups-preserved
groups-preserved over c =
    let lanes = c.args.self.now in
    let p = params lanes.set in
    let old = c.args.x.now in
    let Hashed : ℕ → List (List ℕ) → Type 0 = λ i y. (j : ℕ) → j < 8 → (a : Address) → HasAddress (group c.args.adrs.now i) j a
    → value_at y j p.n ≡ tweaked_hash SHA_256 p lanes.pk_seed.now a (value_at (group old i) j c.args.len) in
    let now = c.groups.invariant.2 c.groups.g (omega arith) in
    done_next Hashed c.groups.g old c.groups.x c.short_digests.result (omega arith)
    (λ j lane a held.
    c.short_digests.ensures p lanes.pk_seed.now j a (n_high lanes.set) lanes.len lane (c.splat_all.ensures j lane ∙ lanes.short_state) held
    ∙ ap (λ (y : List (List ℕ)). tweaked_hash SHA_256 p lanes.pk_seed.now a (value_at y j c.args.len)) now)
    c.groups.invariant

pub returns-after-groups : goal.returns-after-groups
returns-after-groups over c = λ g j in_batch lane a held. c.groups.invariant.1 g (omega (arith, in_batch)) j lane a held
