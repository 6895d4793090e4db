-- The three parts are the lines of the text.
use Rattle.std.proofs.Common.{rules, ◌≡◌, append_assoc, sym, ◌∙◌}
use Rattle.hex.specs.Hex.{encode_lower}
use Rattle.slh_params.specs.Label.{label}
use Rattle.slh_key_files.specs.Lines.{line}
use Rattle.slh_c.proofs.key_files.put_text.Goals as goal

pub returns : goal.returns
returns c =
    let first : c.copy_from_slice.new.self ≡ c.first_line.result.now = search rules in
    let whole = c.first_line.ensures (record { set = c.args.set; bytes = c.args.key.now }) in
    rw (first, c.put_name.ensures, c.put_digits.ensures)
    (sym (append_assoc c.first_line.result.now (line (label c.args.set)) (line (encode_lower c.args.key.now))) ∙ sym whole)
