use Rattle.std.proofs.Common.{◌≡◌, ◌*◌, ◌-◌, ◌++◌, length, take, drop}
use Rattle.slh_key_files.specs.Base64Lines.{in_lines, line_count}
use Rattle.slh_key_files.proofs.base64_lines.put_lines.Given as goal

abbrev pub invariant-lines : goal.invariant-lines
invariant-lines l =
    take (65 * l.i) l.text ++ in_lines (line_count (length l.chars) - l.i) (drop (64 * l.i) l.chars) ≡ in_lines (line_count (length l.chars)) l.chars
