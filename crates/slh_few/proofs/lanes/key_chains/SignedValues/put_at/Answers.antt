use Rattle.std.proofs.Common.{◌+◌, ◌<◌, ◌∙◌, length, arith}
use Rattle.slh_params.specs.ParamSet.{params}
use Rattle.slh_params.specs.Params.{len}
use Rattle.slh_few.proofs.Ends.{chunk_fits}
use Rattle.slh_few.proofs.lanes.key_chains.SignedValues.put_at.Goals as goal

pub put_chunk-requires-clause-within : goal.put_chunk-requires-clause-within
put_chunk-requires-clause-within over c =
    let p = params c.args.set in
    let chain : c.args.c + c.loop-g.g < len p = omega (arith, c.requires.chains, c.loop-g-test.true) in
    rw c.n-n.ensures (chunk_fits (c.args.c + c.loop-g.g) (len p) p.n (length c.loop-g.out) chain (c.loop-g.auto.out ∙ c.requires.out))
