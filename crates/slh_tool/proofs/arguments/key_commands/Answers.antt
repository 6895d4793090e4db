use Rattle.std.proofs.Common.{◌∙◌, ap}
use Rattle.std.proofs.lemmas.Result.{IfOk-weaker}
use Rattle.clap.specs.Words.{App, with_subcommand}
use Rattle.slh_tool.specs.Arguments.{verify_shape, check_shape, upgrade_shape}
use Rattle.slh_tool.proofs.arguments.key_commands.Goals as goal

pub returns : goal.returns
returns c =
    let first = c.in_ok-program.ensures verify_shape c.verify_command.ensures ∙ ap (λ (a : App). with_subcommand a verify_shape) c.in_ok-message_commands.ensures in
    let second = c.in_ok-program-2.ensures check_shape c.check_command.ensures ∙ ap (λ (a : App). with_subcommand a check_shape) first in
    IfOk-weaker c.with_subcommand-3.result _ _ (λ r h. h ∙ ap (λ (a : App). with_subcommand a upgrade_shape) second)
    (c.with_subcommand-3.ensures upgrade_shape c.upgrade_command.ensures)
