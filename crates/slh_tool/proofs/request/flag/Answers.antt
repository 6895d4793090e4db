use Rattle.std.proofs.Common.{◌∙◌, false, Option, ap}
use Rattle.std.specs.Prelude.{codes}
use Rattle.std.specs.Option.{option_map_or}
use Rattle.std.specs.Str.{bytes_eq}
use Rattle.clap.proofs.WalkLemmas.{one_text-rows}
use Rattle.clap.specs.Words.{Text, found_of}
use Rattle.slh_tool.proofs.Words.{flag_read}
use Rattle.slh_tool.proofs.request.flag.Goals as goal

pub returns : goal.returns
returns c =
    c.unwrap_or.ensures ∙ flag_read _ _ c.get_one.result c.get_one.ensures.none c.get_one.ensures.value
    ∙ ap (λ (o : Option Text). option_map_or (λ text. bytes_eq text (codes "true")) o false) (one_text-rows (found_of c.args.values.now) c.args.name.now)
