use Rattle.std.proofs.Common.{◌≡◌, ◌*◌, ℕ, List, length, take}
use Rattle.hex.specs.Hex.{IsBytes}
use Rattle.base64.specs.Rfc4648.{encode_symbols}
use Rattle.slh_key_files.specs.Base64Lines.{characters}
use Rattle.slh_key_files.proofs.base64_lines.decode_groups.Given as goal

abbrev pub invariant-groups : goal.invariant-groups
invariant-groups l = (m : List ℕ) → IsBytes m → length m ≡ length l.bytes → l.chars ≡ encode_symbols characters m
    → take (3 * l.i) l.bytes ≡ take (3 * l.i) m
