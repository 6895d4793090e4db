use Rattle.std.proofs.Common.{◌≡◌}
use Rattle.slh_jobs.specs.KeyJobs.{key_shape}
use Rattle.slh_jobs.proofs.Indices.{range_within}
use Rattle.slh_jobs.proofs.generation.key_node.Goals as goal

pub xmss_node-requires-clause-within : goal.xmss_node-requires-clause-within
xmss_node-requires-clause-within c =
    let shape : c.key_shape.result ≡ key_shape c.args.levels.now = c.key_shape.ensures.value in
    rw (c.below.ensures, shape) (range_within (key_shape c.args.levels.now) (rw shape at c.key_shape.ensures.shape) c.args.range c.requires.range)
