use Rattle.std.proofs.Common.{◌≡◌, ◌+◌, ◌-◌, refl, arith}
use Rattle.slh_params.specs.ParamSet.{params}
use Rattle.slh_params.specs.Params.{w}
use Rattle.slh_lanes.specs.Lanes.{group}
use Rattle.slh_few.proofs.EightKeys.{run_on}
use Rattle.slh_few.proofs.lanes.key_chains.whole_chains.Goals as goal

pub returns : goal.returns
returns over c = λ g in_batch.
    let p = params c.args.lanes.now.set in
    let last : 0 + (c.w.result - 1) ≡ w p - 1 = omega (arith, c.w.ensures) in
    run_on p c.args.sk_seed.now c.args.lanes.now.pk_seed.now c.args.at (c.args.c + g) 0 0 (c.w.result - 1) (w p - 1) (group c.key_adrs-adrs.result g)
    (group c.secrets-values.result g) (group c.chains.new.x g) refl last (λ j lane. c.key_adrs-adrs.ensures g j in_batch lane)
    (λ j lane. c.chains.ensures g j in_batch lane) (c.secrets-values.ensures g in_batch)
