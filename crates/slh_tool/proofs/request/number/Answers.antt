use Rattle.std.proofs.Common.{◌∙◌, Option, ap}
use Rattle.std.specs.Option.{option_map_or}
use Rattle.std.specs.Str.Parse.{ExplainsUnsignedError, HasUnsignedDigitsIfOk, ParsesUnsigned}
use Rattle.clap.proofs.WalkLemmas.{one_text-rows}
use Rattle.clap.specs.Walk.{byte_or_zero}
use Rattle.clap.specs.Words.{Text, found_of}
use Rattle.slh_tool.proofs.Words.{number_read}
use Rattle.slh_tool.proofs.request.number.Goals as goal

pub returns : goal.returns
returns c =
    c.unwrap_or.ensures
    ∙ number_read _ (λ t r. ParsesUnsigned 8 10 t r × ExplainsUnsignedError 10 t r × HasUnsignedDigitsIfOk t r) _ c.get_one.result (λ t x h. h.0)
    c.get_one.ensures.none c.get_one.ensures.value
    ∙ ap (λ (o : Option Text). option_map_or byte_or_zero o 0) (one_text-rows (found_of c.args.values.now) c.args.name.now)
