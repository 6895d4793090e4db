use Rattle.std.proofs.Common.{◌≡◌, ℕ, ◌+◌, ◌-◌, ◌*◌, ◌/◌, ◌++◌, arith, ap, length, length-take-le, replicate, ◌∙◌, sym}
use Rattle.slh_key_files.proofs.Padding.{put_is}
use Rattle.slh_key_files.proofs.base64_lines.put_base64.Goals as goal

pub returns : goal.returns
returns c =
    let whole : length c.put_zeros_after.new.out ≡ 3 * ((length c.args.bytes.now + 2) / 3) = c.put_zeros_after.auto.out ∙ length-take-le _ _ (omega arith) in
    let chars : length c.encode_groups.new.chars ≡ 4 * ((length c.args.bytes.now + 2) / 3) = c.encode_groups.auto.chars ∙ length-take-le _ _ (omega arith) in
    put_is c.args.bytes.now c.put_zeros_after.new.out c.encode_groups.new.chars c.end_with.new.chars c.put_lines.new.text
    (c.put_zeros_after.ensures ∙ ap (λ (n : ℕ). c.args.bytes.now ++ replicate (n - length c.args.bytes.now) 0) (sym c.put_zeros_after.auto.out)) whole c.encode_groups.ensures c.end_with.ensures c.put_lines.ensures
