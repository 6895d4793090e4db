-- What is written is read as the key, which has as many bytes as its set asks for.
use Rattle.std.proofs.Common.{rules, ◌≡◌, length, ap, sym, subst, ◌∙◌}
use Rattle.std.specs.Prelude.{string_bytes}
use Rattle.hex.specs.Hex.{IsBytes}
use Rattle.slh_key_files.specs.KeyFile.{IsKey, key_text}
use Rattle.slh_key_files.specs.declared.key_file.AnyKey.TheVariants as any
use Rattle.slh_key_files.specs.declared.key_kind.KeyKind.TheVariants.{Secret}
use Rattle.slh_key_files.proofs.Reading.{either_again, written_again}
use Rattle.slh_key_files.proofs.key_text.write_secret.Given.{Over}
use Rattle.slh_key_files.proofs.key_text.write_secret.Goals as goal

held : (g : Over) (c : goal.In_ok-key_text g) → IsKey Secret c.args.key.now
held g c =
    record {
      sized = ap length (sym c.bytes.ensures.value) ∙ c.bytes.ensures.len;
      bytes = subst IsBytes c.bytes.ensures.value c.key_text.ensures.bytes;
    }

written : (g : Over) (c : goal.In_ok-key_text g) → string_bytes c.in_ok-key_text.field-0 ≡ key_text Secret c.args.key.now
written g c = search rules

pub returns-clause-read_back : goal.returns-clause-read_back
returns-clause-read_back g c = rw (written g c) (written_again Secret c.args.key.now (held g c))

pub returns-clause-read_key : goal.returns-clause-read_key
returns-clause-read_key g c = rw (written g c) (either_again (any.Secret c.args.key.now) (held g c))
