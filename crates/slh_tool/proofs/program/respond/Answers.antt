use Rattle.slh_tool.proofs.Words.{none_taken}
use Rattle.slh_tool.proofs.program.respond.Goals as goal

pub returns-in_err-help-in-Err-Help-clause-at_most : goal.returns-in_err-help-in-Err-Help-clause-at_most
returns-in_err-help-in-Err-Help-clause-at_most g c = none_taken _ _

pub returns-in_ok-help-in-Err-Help-clause-at_most : goal.returns-in_ok-help-in-Err-Help-clause-at_most
returns-in_ok-help-in-Err-Help-clause-at_most g c = none_taken _ _

pub returns-in_err-version-in-Err-Version-clause-at_most : goal.returns-in_err-version-in-Err-Version-clause-at_most
returns-in_err-version-in-Err-Version-clause-at_most g c = none_taken _ _

pub returns-in_ok-version-in-Err-Version-clause-at_most : goal.returns-in_ok-version-in-Err-Version-clause-at_most
returns-in_ok-version-in-Err-Version-clause-at_most g c = none_taken _ _
