-- The value is written in the chain's chunk, and the chunk in the whole.
use Rattle.std.proofs.Common.{◌≡◌, ◌+◌, ◌-◌, ◌*◌, ◌≤◌, length, ap, sym, ◌∙◌, arith}
use Rattle.slh_params.specs.ParamSet.{params}
use Rattle.slh_params.specs.Params.{len}
use Rattle.slh_few.specs.KeyCheckpoints.{chain_checkpoints_len}
use Rattle.slh_few.specs.Chunks.{chunk}
use Rattle.slh_few.proofs.Ends.{chunk_fits}
use Rattle.slh_few.proofs.ChunkWrites.{chunk-written, chunk-others}
use Rattle.slh_few.proofs.key_checkpoints.put_checkpoint.Goals as goal

pub slice_bounds-put_chunk-end : goal.slice_bounds-put_chunk-end
slice_bounds-put_chunk-end c =
    let p = params c.args.set in
    rw c.chain_checkpoints_len-size.ensures.value (chunk_fits c.args.c (len p) (chain_checkpoints_len p) (length c.args.checkpoints.now) c.requires.chain c.requires.checkpoints)

pub returns-clause-others : goal.returns-clause-others
returns-clause-others c = λ i other.
    let k = c.chain_checkpoints_len-size.result in
    let p = params c.args.set in
    let size : c.args.c * k + k - c.args.c * k ≡ k = omega arith in
    let room : c.args.c * k + k ≤ length c.args.checkpoints.now =
    rw c.chain_checkpoints_len-size.ensures.value (chunk_fits c.args.c (len p) (chain_checkpoints_len p) (length c.args.checkpoints.now) c.requires.chain c.requires.checkpoints) in
    let long : length c.put_chunk.new.bytes ≡ k = omega (arith, c.put_chunk.auto.bytes, room) in
    let same : chunk p.n c.put_chunk.new.bytes i ≡ chunk p.n (chunk k c.args.checkpoints.now c.args.c) i = rw (c.n.ensures, size) at (c.put_chunk.ensures.others i other) in
    rw (sym c.chain_checkpoints_len-size.ensures.value, size)
    (ap (λ b. chunk p.n b i) (chunk-written k c.args.c c.args.checkpoints.now c.put_chunk.new.bytes room long) ∙ same)

pub returns-clause-chains : goal.returns-clause-chains
returns-clause-chains c = λ i other.
    let k = c.chain_checkpoints_len-size.result in
    let p = params c.args.set in
    let size : c.args.c * k + k - c.args.c * k ≡ k = omega arith in
    let room : c.args.c * k + k ≤ length c.args.checkpoints.now =
    rw c.chain_checkpoints_len-size.ensures.value (chunk_fits c.args.c (len p) (chain_checkpoints_len p) (length c.args.checkpoints.now) c.requires.chain c.requires.checkpoints) in
    let long : length c.put_chunk.new.bytes ≡ k = omega (arith, c.put_chunk.auto.bytes, room) in
    rw (sym c.chain_checkpoints_len-size.ensures.value, size) (chunk-others k c.args.c i c.args.checkpoints.now c.put_chunk.new.bytes room long other)
