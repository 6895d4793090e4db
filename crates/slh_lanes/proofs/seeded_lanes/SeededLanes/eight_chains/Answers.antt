use Rattle.std.proofs.Common.{◌≡◌, ℕ, ◌+◌, ◌-◌, List, slice_index, take, inl, inr, arith, sym, ap, ◌∙◌}
use Rattle.std.proofs.lemmas.Bool.{cases_lt}
use Rattle.sha2.specs.Sha256.{digest_bytes}
use Rattle.slh_params.specs.ParamSet.{params}
use Rattle.slh_params.proofs.Bounds.{n_cases}
use Rattle.slh_lanes.specs.Lanes.{HasAddress, value_at}
use Rattle.slh_lanes.specs.Steps.{steps}
use Rattle.slh_lanes.proofs.seeded_lanes.SeededLanes.eight_chains.Goals as goal

pub run_singles-requires-clause-n : goal.run_singles-requires-clause-n
run_singles-requires-clause-n c = rw c.n-n.ensures (n_cases c.args.self.now.set)

pub run_singles-requires-in-Instructions-clause-n : goal.run_singles-requires-in-Instructions-clause-n
run_singles-requires-in-Instructions-clause-n c = rw c.n-n.ensures (n_cases c.args.self.now.set)

pub run_part-low-requires-clause-n : goal.run_part-low-requires-clause-n
run_part-low-requires-clause-n c = rw c.n-n.ensures (n_cases c.args.self.now.set)

pub run_part-requires-clause-n : goal.run_part-requires-clause-n
run_part-requires-clause-n c = rw c.n-n.ensures (n_cases c.args.self.now.set)

pub run-requires : goal.run-requires
run-requires c = (omega arith, (omega arith, (omega arith, (rw c.n-n.ensures (n_cases c.args.self.now.set), c.requires))))

pub returns-in-Four : goal.returns-in-Four
unfolding HasAddress value_at
returns-in-Four c j lane a held =
    let lanes = c.args.self.now in
    let p = params lanes.set in
    let pk : List ℕ = lanes.pk_seed.now in
    let value = λ (l : List ℕ). take p.n (digest_bytes l 8) in
    elim (cases_lt j 4) [
      | inl low ↦
          let at : 0 + j ≡ j = omega arith in
          ap value (c.run_part.ensures.others j (inl low))
          ∙ rw at at (c.run_part-low.ensures.run p pk j a (sym c.n-n.ensures) lanes.len low lanes.short_state) held
      | inr ge ↦
          let at : 4 + (j - 4) ≡ j = omega arith in
          rw at at (c.run_part.ensures.run p pk (j - 4) a (sym c.n-n.ensures) lanes.len (omega arith) lanes.short_state) held
          ∙ ap (λ (l : List ℕ). steps p pk a (value l) (slice_index c.args.from j) (slice_index c.args.counts j)) (c.run_part-low.ensures.others j (inr ge))
    ]

pub returns-in-Eight : goal.returns-in-Eight
unfolding HasAddress value_at
returns-in-Eight c = λ j lane a held.
    let lanes = c.args.self.now in
    c.run.ensures (params lanes.set) lanes.pk_seed.now j a (sym c.n-n.ensures) lanes.len lane lanes.short_state held
