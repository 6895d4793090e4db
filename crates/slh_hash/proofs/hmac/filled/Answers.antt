use Rattle.std.proofs.Common.{◌-◌, length, refl, ◌∙◌, arith}
use Rattle.std.proofs.lemmas.List.{length-replicate}
use Rattle.slh_hash.proofs.Zeros.{to_byte-zero}
use Rattle.slh_hash.proofs.hmac.filled.Goals as goal

pub append-requires-2 : goal.append-requires-2
append-requires-2 c =
    let zeros = c.zeros.ensures ∙ to_byte-zero (c.args.len - length c.args.bytes.now) in
    rw (c.append.ensures, c.new-block.ensures, zeros, length-replicate) (omega arith)

pub returns : goal.returns
returns c =
    let zeros = c.zeros.ensures ∙ to_byte-zero (c.args.len - length c.args.bytes.now) in
    rw (c.append-2.ensures, c.append.ensures, c.new-block.ensures, zeros) refl
