use Rattle.std.proofs.Common.{◌∙◌, ap, map, string_bytes, refl}
use Rattle.slh_tool_tests.proofs.Answering.{consistency_over}
use Rattle.slh_tool_tests.proofs.known.check_known.Goals as goal

pub returns : goal.returns
returns g c = λ done.
    consistency_over _ _ c.args.key.now _ _ (ap (map string_bytes) c.as_slice.ensures.value ∙ c.in_ok-words.ensures) refl (c.answer_over.ensures done)
