use Rattle.sha2.specs.Sha256.{digest_bytes}
use Rattle.slh_lanes.specs.Columns.{column}
use Rattle.slh_lanes.proofs.WordBytes.{HasWords_bytes}
use Rattle.slh_lanes.proofs.eight_blocks.compress.Goals as goal

pub returns-clause-bytes : goal.returns-clause-bytes
returns-clause-bytes c j lane =
    let block = column j c.args.block.now in
    c.compress_eight.ensures j lane (digest_bytes block 16) (HasWords_bytes block (λ k lt. c.tell_all.ensures j lane k))
