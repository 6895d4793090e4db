use Rattle.std.proofs.Common.{◌≡◌, ◌+◌, ◌-◌, ◌*◌, length, ap, ◌∙◌, arith}
use Rattle.slh_few.proofs.ChunkWrites.{chunk-written, chunk-others}
use Rattle.slh_few.proofs.nodes.put_chunk.Goals as goal

pub returns : goal.returns
returns c =
    let n = c.args.size in
    let start = c.args.index * n in
    let xs = c.args.bytes.now in
    let ys = c.copy_from_slice.new.self in
    let size : start + n - start ≡ n = omega arith in
    let long : length ys ≡ n = ap length c.copy_from_slice.ensures.after ∙ c.requires.value in
    rw size (record {
      set = chunk-written n c.args.index xs ys c.requires.within long ∙ c.copy_from_slice.ensures.after;
      others = λ i other. chunk-others n c.args.index i xs ys c.requires.within long other;
    })
