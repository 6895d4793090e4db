-- Where the number can't be written, what is there is a prefix of the whole; else it is the whole.
use Rattle.std.proofs.Common.{rules, ◌++◌, ℕ, List, codes}
use Rattle.std.specs.Fmt.{decimal}
use Rattle.slh_io.proofs.Texts.{ended, stopped}
use Rattle.slh_vectors.specs.Reading.{member_name}
use Rattle.slh_tool.proofs.tell.put_member.Goals as goal

abbrev test_text : ℕ → List ℕ
test_text n = codes " test " ++ decimal n ++ codes " member "

pub returns-in_err-put_number-clause-puts : goal.returns-in_err-put_number-clause-puts
returns-in_err-put_number-clause-puts g c =
    stopped c.from_residual.result _ _ (test_text c.args.test) (member_name c.args.member) (search rules) c.in_err-put_number.ensures.puts

pub returns-clause-puts : goal.returns-clause-puts
returns-clause-puts g c =
    rw (← c.name.ensures) (ended c.put_text.result _ _ _ (test_text c.args.test) c.name.result.now c.in_ok-put_number.ensures.puts c.put_text.ensures.puts)
