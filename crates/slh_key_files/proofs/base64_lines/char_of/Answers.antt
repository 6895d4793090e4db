use Rattle.slh_key_files.proofs.Characters.{char_is}
use Rattle.slh_key_files.proofs.base64_lines.char_of.Goals as goal

pub returns : goal.returns
returns c = rw (c.from.ensures, c.from-2.ensures, c.from-3.ensures, c.from-4.ensures) (char_is c.args.value c.requires)
