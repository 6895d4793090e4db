use Rattle.std.proofs.Common.{◌≡◌, ◌≢◌, ℕ, ◌<◌, ◌++◌, List, arith, refl, sym, ap, ◌∙◌}
use Rattle.slh_params.specs.Address.{Address}
use Rattle.slh_params.specs.ParamSet.{params}
use Rattle.slh_params.proofs.Bounds.{n_cases}
use Rattle.slh_hash.specs.Hash.{H, tweaked_hash}
use Rattle.slh_hash.specs.HashFunctions.{SHA_256}
use Rattle.slh_lanes.specs.Lanes.{HasAddress, group, value_at}
use Rattle.slh_lanes.proofs.Batches.{done_next}
use Rattle.slh_lanes.proofs.NodeLengths.{by_sha256, not_short}
use Rattle.slh_lanes.proofs.seeded_lanes.SeededLanes.h.Goals as goal

pub pairs-init : goal.pairs-init
pairs-init over c = (refl, λ i lt. absurd (omega (arith, lt)), λ i ge. refl)

pub pairs-preserved : goal.pairs-preserved
pairs-preserved over c =
    let old = c.args.left.now in
    let right = c.args.right.now in
    let Joined : ℕ → List (List ℕ) → Type 0 = λ i y. (j : ℕ) → j < 8 → value_at y j 32 ≡ value_at (group old i) j 16 ++ value_at (group right i) j 16 in
    let now = c.pairs.invariant.2 c.pairs.g (omega arith) in
    done_next Joined c.pairs.g old c.pairs.left c.two_short.result (omega arith)
    (λ j lane. c.two_short.ensures j lane ∙ ap (λ (y : List (List ℕ)). value_at y j 16 ++ value_at (group right c.pairs.g) j 16) now)
    c.pairs.invariant

pub groups-init : goal.groups-init
groups-init over c = (refl, λ i lt. absurd (omega (arith, lt)), λ i ge. refl)

pub groups-preserved : goal.groups-preserved
groups-preserved over c =
    let lanes = c.args.self.now in
    let p = params lanes.set in
    let old = c.args.left.now in
    let right = c.args.right.now in
    let other : p.n ≢ 16 = λ e. c.if-n-eq16.false (c.n-n.ensures ∙ e) in
    let Hashed : ℕ → List (List ℕ) → Type 0 = λ i y. (j : ℕ) → j < 8 → (a : Address) → HasAddress (group c.args.adrs.now i) j a
    → value_at y j p.n ≡ H p lanes.pk_seed.now a (value_at (group old i) j p.n) (value_at (group right i) j p.n) in
    let now = c.groups.invariant.2 c.groups.g (omega arith) in
    done_next Hashed c.groups.g old c.groups.left c.long_digests.result (omega arith)
    (λ j lane a held.
    c.long_digests.ensures p lanes.pk_seed.now j a (sym c.n-n.ensures) lanes.len lane (c.splat_all-state.ensures j lane ∙ lanes.long_state other) held
    ∙ ap (λ (y : List (List ℕ)). H p lanes.pk_seed.now a (value_at y j p.n) (value_at (group right c.groups.g) j p.n)) now)
    c.groups.invariant

pub long_digests-requires : goal.long_digests-requires
long_digests-requires over c = not_short c.n-n.result (rw c.n-n.ensures (n_cases c.args.self.now.set)) c.if-n-eq16.false

pub returns-after-pairs : goal.returns-after-pairs
returns-after-pairs over c = λ g j in_batch lane a held.
    let lanes = c.args.self.now in
    let p = params lanes.set in
    let pk : List ℕ = lanes.pk_seed.now in
    let n : p.n ≡ 16 = sym c.n-n.ensures ∙ c.if-n-eq16.true in
    let both : ℕ → List ℕ = λ m. value_at (group c.args.left.now g) j m ++ value_at (group c.args.right.now g) j m in
    c.digests.ensures g j in_batch lane a held
    ∙ ap (tweaked_hash SHA_256 p pk a) (c.pairs.invariant.1 g (omega (arith, in_batch)) j lane ∙ ap both (sym n))
    ∙ by_sha256 p pk a (both p.n) n

pub returns-after-groups : goal.returns-after-groups
returns-after-groups over c = λ g j in_batch lane a held. c.groups.invariant.1 g (omega (arith, in_batch)) j lane a held
