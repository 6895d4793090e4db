-- The chains are run to the lower digit, to the higher one, and to their ends. The digit of each is one of the two.
use Rattle.std.proofs.Common.{◌≡◌, ◌⊎◌, ℕ, ◌+◌, ◌-◌, ◌<◌, inl, inr, refl, sym, ap, ◌∙◌, slice_index, arith}
use Rattle.std.proofs.lemmas.Bool.{cases_eq, cases_lt}
use Rattle.slh_params.specs.Params.{w}
use Rattle.slh_params.specs.ParamSet.{params}
use Rattle.slh_lanes.specs.Lanes.{group}
use Rattle.slh_few.specs.KeyStreams.{AreAfter, key_at, value_after}
use Rattle.slh_few.proofs.EightKeys.{run_on}
use Rattle.slh_few.proofs.lanes.key_chains.SignedValues.ends.Given as given
use Rattle.slh_few.proofs.lanes.key_chains.SignedValues.ends.Goals as goal
use Rattle.slh_few.proofs.lanes.key_chains.SignedValues.ends.Goals.{After-put_at-2}

-- the values after the first steps, and after those of all
at_low : (over : given.Over) (c : After-put_at-2 over) (g : ℕ) → g < over.row.G
    → AreAfter (params c.args.lanes.now.set) c.args.sk_seed.now c.args.lanes.now.pk_seed.now c.args.at (c.args.c + g) c.min-low.result (group c.chains.new.x g)
at_low over c g in_batch =
    let low : ℕ = c.min-low.result in
    let all : 0 + low ≡ low = omega arith in
    run_on (params c.args.lanes.now.set) c.args.sk_seed.now c.args.lanes.now.pk_seed.now c.args.at (c.args.c + g) 0 0 low low (group c.key_adrs-adrs.result g)
    (group c.secrets-values.result g) (group c.chains.new.x g) refl all (λ j lane. c.key_adrs-adrs.ensures g j in_batch lane)
    (λ j lane. c.chains.ensures g j in_batch lane) (c.secrets-values.ensures g in_batch)

at_high : (over : given.Over) (c : After-put_at-2 over) (g : ℕ) → g < over.row.G
    → AreAfter (params c.args.lanes.now.set) c.args.sk_seed.now c.args.lanes.now.pk_seed.now c.args.at (c.args.c + g) c.max-high.result (group c.chains-2.new.x g)
at_high over c g in_batch =
    let low : ℕ = c.min-low.result in
    let high : ℕ = c.max-high.result in
    let all : low + (high - low) ≡ high = omega (arith, c.min-low.ensures, c.max-high.ensures) in
    run_on (params c.args.lanes.now.set) c.args.sk_seed.now c.args.lanes.now.pk_seed.now c.args.at (c.args.c + g) low low (high - low) high (group c.key_adrs-adrs.result g)
    (group c.chains.new.x g) (group c.chains-2.new.x g) refl all (λ j lane. c.key_adrs-adrs.ensures g j in_batch lane)
    (λ j lane. c.chains-2.ensures g j in_batch lane) (at_low over c g in_batch)

pub returns-clause-ends : goal.returns-clause-ends
returns-clause-ends over c = λ g in_batch.
    let p = params c.args.lanes.now.set in
    let high : ℕ = c.max-high.result in
    let first = c.requires.fits.1 c.args.c (omega (arith, c.requires.some, c.requires.chains)) in
    let last = c.requires.fits.1 (c.args.c + (over.row.G - 1)) (omega (arith, c.requires.some, c.requires.chains)) in
    let all : high + (c.w.result - 1 - high) ≡ w p - 1 = omega (arith, first, last, c.max-high.ensures, c.w.ensures) in
    let there = (goal.at.returns-clause-ends over c).After-put_at-2 in
    run_on p c.args.sk_seed.now c.args.lanes.now.pk_seed.now c.args.at (c.args.c + g) high high (c.w.result - 1 - high) (w p - 1) (group c.key_adrs-adrs.result g)
    (group c.chains-2.new.x g) (group c.chains-3.new.x g) refl all (λ j lane. c.key_adrs-adrs.ensures g j in_batch lane)
    (λ j lane. c.chains-3.ensures g j in_batch lane) (at_high over there g in_batch)

pub returns-clause-stored : goal.returns-clause-stored
returns-clause-stored over c = λ g in_batch.
    let there = (goal.at.returns-clause-stored over c).After-put_at-2 in
    let digits = slice_index c.args.self.now.digits.now in
    let at : ℕ = c.args.c + g in
    let lane = c.requires.fits.0 in
    let after = value_after (params c.args.lanes.now.set) c.args.sk_seed.now c.args.lanes.now.pk_seed.now (key_at c.args.at c.args.self.now.lane) at in
    let first_or_last : (digits at ≡ digits c.args.c) ⊎ (digits at ≡ digits (c.args.c + (over.row.G - 1))) =
    elim (cases_lt g 1) [
      | inl lt ↦ inl (ap digits (let e : at ≡ c.args.c = omega (arith, lt) in e))
      | inr ge ↦ inr (ap digits (let e : at ≡ c.args.c + (over.row.G - 1) = omega (arith, ge, in_batch, c.requires.few) in e))
    ] in
    elim (cases_eq (digits at) c.max-high.result) [
      | inl high ↦ c.put_at-2.ensures.put g in_batch high ∙ at_high over there g in_batch c.args.self.now.lane lane ∙ ap after (sym high)
      | inr other ↦
          let low : digits at ≡ c.min-low.result = elim first_or_last [
            | inl e ↦ omega (arith, e, other, c.min-low.ensures, c.max-high.ensures)
            | inr e ↦ omega (arith, e, other, c.min-low.ensures, c.max-high.ensures)
          ] in
          c.put_at-2.ensures.others at (inr (inr other)) ∙ c.put_at.ensures.put g in_batch low
          ∙ at_low over there g in_batch c.args.self.now.lane lane ∙ ap after (sym low)
    ]
