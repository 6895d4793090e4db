-- The signed content of a message file.
use Rattle.std.specs.Prelude.{◌≡◌}
use Rattle.clap.specs.Words.{Text}
use Rattle.slh_core.specs.Messages.{message_in_form, pre_hash_message, pure_message}
use Rattle.slh_core.specs.declared.form.Form.{Form}
use Rattle.slh_io.specs.Devices.{FilesState}
use Rattle.slh_tool.specs.Reading.{IsFile}
use Rattle.slh_tool.specs.declared.content.Content.{Content}
use Rattle.slh_tool.specs.declared.content.Content.TheVariants.{Message, Digest}

-- its M' under a context (FIPS 205, Algorithms 22 and 23)
abbrev pub formatted : {A : Type 0} → Content A → Text → Text
formatted (Message message) context = pure_message context message.items
formatted (Digest digest) context = pre_hash_message context digest.function digest.bytes

-- under each context its M' is that of the file at this path in this form
abbrev pub IsContentOf : {A : Type 0} → FilesState → Text → Form → Content A → Type 0
IsContentOf files path form content = (message : Text) × IsFile files path message
    × ((context : Text) → formatted content context ≡ message_in_form form context message)
