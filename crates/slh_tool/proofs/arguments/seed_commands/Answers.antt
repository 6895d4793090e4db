use Rattle.std.proofs.Common.{◌∙◌, ap}
use Rattle.std.proofs.lemmas.Result.{IfOk-weaker}
use Rattle.clap.specs.Words.{App, with_subcommand}
use Rattle.slh_tool.specs.Arguments.{params_shape, root_shape, keygen_shape}
use Rattle.slh_tool.proofs.arguments.seed_commands.Goals as goal

pub returns : goal.returns
returns c =
    let first = c.in_ok-program-2.ensures params_shape c.params_command.ensures ∙ ap (λ (a : App). with_subcommand a params_shape) c.in_ok-program.ensures in
    let second = c.in_ok-program-3.ensures root_shape c.root_command.ensures ∙ ap (λ (a : App). with_subcommand a root_shape) first in
    IfOk-weaker c.with_subcommand-3.result _ _ (λ r h. h ∙ ap (λ (a : App). with_subcommand a keygen_shape) second)
    (c.with_subcommand-3.ensures keygen_shape c.keygen_command.ensures)
