use Rattle.std.proofs.Common.{◌≡◌, ℕ, ◌+◌, ◌-◌, ◌*◌, ◌^◌, ◌<◌, ◌≤◌, List, slice_index, take, inl, inr, arith, refl, sym, ap, ◌∙◌}
use Rattle.std.proofs.lemmas.Bool.{cases_lt}
use Rattle.sha2.specs.Sha256.{digest_bytes}
use Rattle.slh_params.specs.Address.{Address}
use Rattle.slh_params.specs.ParamSet.{params}
use Rattle.slh_params.proofs.Bounds.{n_cases}
use Rattle.slh_lanes.specs.Lanes.{HasAddress, group, value_at}
use Rattle.slh_lanes.specs.Steps.{steps}
use Rattle.slh_lanes.proofs.Batches.{done_next}
use Rattle.slh_lanes.proofs.seeded_lanes.SeededLanes.chains_each.Goals as goal

pub run-ends-requires : goal.run-ends-requires
run-ends-requires over c =
    let two : over.row.G ≡ 2 = c.is_joined.ensures c.if-is_joined.true in
    let fits : (g j : ℕ) → g < 2 → j < 8 → slice_index c.join_words.result (8 * g + j) + slice_index c.join_words-then-is_joined.result (8 * g + j) ≤ 2 ^ 16 = λ g j low lane.
    let in_batch : g < over.row.G = omega (arith, two, low) in
    omega (arith, c.join_words.ensures g j in_batch lane, c.join_words-then-is_joined.ensures g j in_batch lane, c.requires.steps g j in_batch lane) in (
      omega arith,
      (
        omega arith,
        (
          omega arith,
          (
            rw c.n.ensures (n_cases c.args.self.now.set),
            λ i lane. elim (cases_lt i 8) [
              | inl low ↦ let at : 8 * 0 + i ≡ i = omega arith in rw at at (fits 0 i (omega arith) low)
              | inr ge ↦ let at : 8 * 1 + (i - 8) ≡ i = omega (arith, ge) in rw at at (fits 1 (i - 8) (omega arith) (omega (arith, lane, ge)))
            ],
          ),
        ),
      ),
    )

pub groups-init : goal.groups-init
groups-init over c = (refl, λ i lt. absurd (omega (arith, lt)), λ i ge. refl)

pub groups-preserved : goal.groups-preserved
groups-preserved over c =
    let lanes = c.args.self.now in
    let p = params lanes.set in
    let old = c.args.x.now in
    let after = λ (i : ℕ) (a : Address) (j : ℕ) (y : List (List ℕ)). steps p lanes.pk_seed.now a (value_at y j p.n)
    (slice_index (group c.args.from.now i) j) (slice_index (group c.args.counts.now i) j) in
    let Run : ℕ → List (List ℕ) → Type 0 = λ i y. (j : ℕ) → j < 8 → (a : Address) → HasAddress (group c.args.adrs.now i) j a
    → value_at y j p.n ≡ after i a j (group old i) in
    let g : ℕ = c.groups.g in
    let now = c.groups.invariant.2 g (omega arith) in
    done_next Run g old c.groups.x c.eight_chains.result (omega arith)
    (λ j lane a held. c.eight_chains.ensures j lane a held ∙ ap (after g a j) now)
    c.groups.invariant

pub returns-then-is_joined : goal.returns-then-is_joined
unfolding HasAddress value_at
returns-then-is_joined over c = λ g j in_batch lane a held.
    let lanes = c.args.self.now in
    let p = params lanes.set in
    let pk : List ℕ = lanes.pk_seed.now in
    let value = λ (l : List ℕ). take p.n (digest_bytes l 8) in
    let within : 8 * g + j < 16 = omega (arith, lane, in_batch, c.requires.few) in
    ap value (c.split_nodes.ensures g j in_batch lane)
    ∙ c.run-ends.ensures p pk (8 * g + j) a (sym c.n.ensures) lanes.len within lanes.short_state
    (ap (λ (l : List ℕ). take 22 (digest_bytes l 6)) (c.join_adrs-joined.ensures g j in_batch lane) ∙ held)
    ∙ (λ i. steps p pk a (value (c.join_nodes-nodes.ensures g j in_batch lane i))
    (c.join_words.ensures g j in_batch lane i) (c.join_words-then-is_joined.ensures g j in_batch lane i))

pub returns-after-groups : goal.returns-after-groups
returns-after-groups over c = λ g j in_batch lane a held. c.groups.invariant.1 g (omega (arith, in_batch)) j lane a held
