-- The messages M' that are signed (FIPS 205, section 10.2, Algorithms 22 and 23), for contexts of at most 255 bytes.
use Rattle.std.specs.Prelude.{ℕ, List, [], ◌++◌, length, Option, None, Some}
use Rattle.slh_params.specs.Bits.{to_byte}
use Rattle.slh_core.specs.PreHash.{PH, oid}
use Rattle.slh_core.specs.declared.form.Form.{Form}
use Rattle.slh_core.specs.declared.form.Form.TheVariants as forms
use Rattle.slh_core.specs.declared.formatted_message.Content.{Content}
use Rattle.slh_core.specs.declared.formatted_message.Content.TheVariants.{Message, Digest}
use Rattle.slh_core.specs.declared.formatted_message.FormattedMessage.{FormattedMessage}
use Rattle.slh_core.specs.declared.pre_hash.PreHash.{PreHash}

-- the pure form: 0, the length of the context, the context, the message
abbrev pub pure_message : List ℕ → List ℕ → List ℕ
pure_message ctx msg = to_byte 0 1 ++ to_byte (length ctx) 1 ++ ctx ++ msg

-- the pre-hash form: 1, the length of the context, the context, the function's object identifier, the digest
abbrev pub pre_hash_message : List ℕ → PreHash → List ℕ → List ℕ
pre_hash_message ctx function digest = to_byte 1 1 ++ to_byte (length ctx) 1 ++ ctx ++ oid function ++ digest

-- M' of a message in a form
abbrev pub message_in_form : Form → List ℕ → List ℕ → List ℕ
message_in_form forms.Pure ctx msg = pure_message ctx msg
message_in_form (forms.PreHash function) ctx msg = pre_hash_message ctx function (PH function msg)

-- the pre-hash form with a function, or the pure form where there is none
abbrev pub form_with : Option PreHash → Form
form_with None = forms.Pure
form_with (Some function) = forms.PreHash function

-- the part of M' after the context: the object identifier, of which the pure form has none, and the message or its
-- digest
abbrev pub oid_bytes : Content → List ℕ
oid_bytes (Message msg) = []
oid_bytes (Digest oid digest) = oid

abbrev pub message_bytes : Content → List ℕ
message_bytes (Message msg) = msg.now
message_bytes (Digest oid digest) = digest.bytes

-- the bytes of a `FormattedMessage`
unfoldable pub bytes_of : FormattedMessage → List ℕ
bytes_of message = message.head ++ message.ctx.now ++ oid_bytes message.content ++ message_bytes message.content
