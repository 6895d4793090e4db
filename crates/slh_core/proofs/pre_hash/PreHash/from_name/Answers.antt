use Rattle.std.proofs.Common.{sym, rules}
use Rattle.slh_core.proofs.Names.{function_named-none}
use Rattle.slh_core.proofs.pre_hash.PreHash.from_name.Goals as goal

pub returns-in_default-clause-named : goal.returns-in_default-clause-named
returns-in_default-clause-named c = sym (function_named-none c.args.text.now (search rules))
