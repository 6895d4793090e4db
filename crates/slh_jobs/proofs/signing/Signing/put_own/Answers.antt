-- A range lies in its tree.
use Rattle.std.proofs.Common.{◌≡◌, rules}
use Rattle.slh_params.specs.ParamSet.{params}
use Rattle.slh_subtrees.specs.Jobs.{height_of}
use Rattle.slh_jobs.specs.Jobs.{shape_of}
use Rattle.slh_jobs.proofs.Indices.{range_within}
use Rattle.slh_jobs.proofs.signing.Signing.put_own.Goals as goal

pub node-requires-clause-within : goal.node-requires-clause-within
node-requires-clause-within c =
    let s = shape_of c.args.self.now.levels c.args.tree in
    let shape : c.shape.result ≡ s = c.shape.ensures.value in
    let high : height_of (params c.args.self.now.trees.signer.now.public.set) c.args.tree ≡ s.height = search rules in
    rw (c.below-below.ensures, shape, high) (range_within s (rw shape at c.shape.ensures.shape) c.args.range c.requires.range)
