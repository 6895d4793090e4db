use Rattle.std.proofs.Common.{arith, refl}
use Rattle.slh_key_files.proofs.Groups.{encode_step, encode_done}
use Rattle.slh_key_files.proofs.base64_lines.encode_groups.Goals as goal

pub groups-preserved : goal.groups-preserved
groups-preserved c =
    encode_step c.args.bytes.now c.groups.chars c.groups.i _ _ _ _ (omega arith) (omega arith)
    (rw (c.char_of.ensures, c.char_of-in-groups.ensures, c.char_of-in-groups-2.ensures, c.char_of-in-groups-3.ensures) refl) c.groups.invariant

pub returns : goal.returns
returns c = encode_done c.args.bytes.now c.groups.chars c.groups.i (omega arith) (omega arith) c.groups.invariant
