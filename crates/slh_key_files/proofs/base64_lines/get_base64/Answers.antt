use Rattle.std.proofs.Common.{◌≡◌, ℕ, List, ◌+◌, ◌-◌, ◌*◌, ◌/◌, ◌++◌, arith, rules, ap, length, length-append, length-take-le, take, replicate, ◌∙◌, sym}
use Rattle.std.proofs.lemmas.List.{length-replicate, take_at}
use Rattle.base64.specs.Rfc4648.{padding_len}
use Rattle.slh_key_files.proofs.Groups.{zeros_are_bytes}
use Rattle.slh_key_files.proofs.Padding.{get_is}
use Rattle.slh_key_files.proofs.base64_lines.get_base64.Goals as goal

pub returns : goal.returns
returns c m more are_bytes sized e =
    let len : length c.take_lines.new.chars ≡ 4 * ((length c.args.bytes.now + 2) / 3) = c.take_lines.auto.chars ∙ length-take-le _ _ (omega arith) in
    let len' : length c.take_lines.new.chars ≡ 4 * ((length m + 2) / 3) = len ∙ ap (λ (n : ℕ). 4 * ((n + 2) / 3)) (sym sized) in
    let ended = c.end_with.ensures ∙ ap (λ (n : ℕ). take ((n + 2) / 3 + n) c.take_lines.new.chars ++ replicate (length c.take_lines.new.chars - ((n + 2) / 3 + n)) 65) (sym sized) in
    let chars = get_is m more c.args.text.now c.take_lines.new.chars c.end_with.new.chars e len' (λ i lt. c.take_lines.ensures i (rw (← c.take_lines.auto.chars) lt)) ended in
    let zeros : List ℕ = replicate (padding_len (length m)) 0 in
    let groups : length (m ++ zeros) ≡ 3 * ((length c.args.bytes.now + 2) / 3) =
    omega (arith, length-append m zeros, length-replicate {A = ℕ} (padding_len (length m)) 0) in
    let whole : c.decode_groups.new.bytes ≡ m ++ zeros = c.decode_groups.ensures (m ++ zeros) (zeros_are_bytes m _ are_bytes)
    (groups ∙ sym (length-take-le _ _ (omega arith))) chars in
    let copied : c.copy_from_slice.new.self ≡ take (length c.args.bytes.now) c.decode_groups.new.bytes = search rules in
    copied ∙ ap (take (length c.args.bytes.now)) whole ∙ take_at m zeros (length c.args.bytes.now) sized
