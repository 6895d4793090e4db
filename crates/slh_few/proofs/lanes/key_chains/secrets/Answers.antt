use Rattle.std.proofs.Common.{◌+◌, ◌∙◌}
use Rattle.slh_params.specs.ParamSet.{params}
use Rattle.slh_few.specs.KeyStreams.{key_at}
use Rattle.slh_few.specs.Wots.{secret}
use Rattle.slh_few.proofs.Chains.{chain-start}
use Rattle.slh_few.proofs.lanes.key_chains.secrets.Goals as goal

pub returns : goal.returns
unfolding secret
returns over c = λ g in_batch j lane.
    let p = params c.args.lanes.now.set in
    let sk = c.args.sk_seed.now in
    let pk = c.args.lanes.now.pk_seed.now in
    let key = key_at c.args.at j in
    let d = c.args.c + g in
    c.prf.ensures g j in_batch lane _ (c.key_adrs.ensures g j in_batch lane) ∙ chain-start p pk key d (secret p sk pk key d) 0
