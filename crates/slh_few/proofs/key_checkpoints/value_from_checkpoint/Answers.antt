-- The chain runs on from the last checkpoints value before the step.
use Rattle.std.proofs.Common.{◌≡◌, ◌*◌, ◌/◌, ◌%◌, length, ap, ◌∙◌}
use Rattle.slh_params.specs.ParamSet.{params}
use Rattle.slh_few.specs.Chunks.{chunk}
use Rattle.slh_few.specs.Wots.{chain}
use Rattle.slh_few.specs.KeyCheckpoints.{spacing, checkpoint_count}
use Rattle.slh_few.proofs.Ends.{chunk_fits}
use Rattle.slh_few.proofs.KeyCheckpoints.{checkpoint_below}
use Rattle.slh_few.proofs.key_checkpoints.value_from_checkpoint.Goals as goal

pub node_at-node-requires-clause-within : goal.node_at-node-requires-clause-within
node_at-node-requires-clause-within c =
    let s = c.args.context.now.set in
    let p = params s in
    rw (c.spacing-every.ensures.value, c.n.ensures)
    (chunk_fits (c.args.steps / spacing p) (checkpoint_count p) p.n (length c.args.checkpoints.now) (checkpoint_below s c.args.steps c.requires.steps) c.requires.checkpoints)

pub returns-clause-value : goal.returns-clause-value
returns-clause-value c =
    let p = params c.args.context.now.set in
    let pk = c.args.context.now.pk_seed.now in
    let j = c.args.steps / spacing p in
    let read : c.node_at-node.result.items ≡ chunk p.n c.args.checkpoints.now j = rw (c.spacing-every.ensures.value, c.n.ensures) at c.node_at-node.ensures.value in
    rw c.spacing-every.ensures.value at c.run_chain.ensures.value
    ∙ ap (λ y. chain p pk c.args.at c.args.c y (j * spacing p) (c.args.steps % spacing p)) read
