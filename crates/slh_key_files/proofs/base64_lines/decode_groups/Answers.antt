use Rattle.std.proofs.Common.{arith, ◌≡◌, ◌∙◌, length, length-set}
use Rattle.slh_key_files.proofs.Groups.{decode_step}
use Rattle.slh_key_files.proofs.base64_lines.decode_groups.Goals as goal

pub groups-preserved : goal.groups-preserved
groups-preserved c m are_bytes sized e =
    let len : length m ≡ length c.groups.bytes = sized ∙ length-set _ _ _ ∙ length-set _ _ _ ∙ length-set _ _ _ in
    decode_step m c.args.chars.now c.groups.bytes c.groups.i _ _ _ _ are_bytes (omega arith) (omega arith) e
    c.value_of-one.ensures.value c.value_of-two.ensures.value c.value_of-three.ensures.value c.value_of-four.ensures.value
    (c.groups.invariant m are_bytes len e)
