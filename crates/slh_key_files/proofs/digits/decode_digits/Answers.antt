use Rattle.std.proofs.Common.{◌≡◌, ◌+◌, ◌*◌, slice_index, Ok, arith, refl, ◌∙◌}
use Rattle.hex.specs.Hex.{pair_value}
use Rattle.hex.proofs.HexLemmas.{decode_of-even}
use Rattle.hex.proofs.Pairs.{decode_step, decode_done}
use Rattle.slh_key_files.proofs.digits.decode_digits.Goals as goal

pub bytes-preserved : goal.bytes-preserved
bytes-preserved c =
    let pair : pair_value (slice_index c.args.digits.now (2 * c.bytes.i)) (slice_index c.args.digits.now (2 * c.bytes.i + 1)) (2 * c.bytes.i) ≡ Ok (c.value_of.result * 16 + c.value_of-in-bytes.result) = rw (c.value_of.ensures.value, c.value_of-in-bytes.ensures.value) refl in
    decode_step _ _ c.bytes.i _ (omega arith) (omega arith) pair c.bytes.invariant

pub returns : goal.returns
returns c =
    decode_of-even _ (omega (arith, c.requires.sized)) ∙ decode_done _ _ c.bytes.i (omega arith) (omega arith) c.bytes.invariant
