use Rattle.std.proofs.Common.{◌≡◌, ◌*◌, ◌++◌, take, drop}
use Rattle.base64.specs.Rfc4648.{encode_symbols}
use Rattle.slh_key_files.specs.Base64Lines.{characters}
use Rattle.slh_key_files.proofs.base64_lines.encode_groups.Given as goal

abbrev pub invariant-groups : goal.invariant-groups
invariant-groups l =
    take (4 * l.i) l.chars ++ encode_symbols characters (drop (3 * l.i) l.bytes) ≡ encode_symbols characters l.bytes
