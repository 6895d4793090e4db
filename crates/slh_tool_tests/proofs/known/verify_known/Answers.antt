use Rattle.std.proofs.Common.{◌∙◌, ap, map, string_bytes, refl}
use Rattle.slh_tool_tests.proofs.Answering.{validity_over}
use Rattle.slh_tool_tests.proofs.known.verify_known.Goals as goal

pub returns : goal.returns
returns g c = λ done.
    validity_over _ _ c.args.key.now c.args.message.now c.args.signature.now _ _ (ap (map string_bytes) c.as_slice.ensures.value ∙ c.in_ok-words.ensures) refl refl refl (c.answer_over.ensures done)
