-- Where a part of the line can't be written, what is there is a prefix of it; else it is the whole.
use Rattle.std.proofs.Common.{rules, ◌++◌, ℕ, List, codes}
use Rattle.std.specs.Fmt.{decimal}
use Rattle.slh_params.specs.ParamSet as param_set
use Rattle.slh_vectors.specs.Cases.{test_view, set_of}
use Rattle.slh_vectors.specs.Report.{line_text, outcome_name}
use Rattle.slh_io.proofs.Texts.{first_of_four, second_of_four, third_of_four, fourth_ended}
use Rattle.slh_vectors.proofs.lines.put_line.Goals as goal

abbrev number_text : ℕ → List ℕ
number_text n = codes "test " ++ decimal n ++ codes " "

pub returns-in_err-put_number-clause-puts : goal.returns-in_err-put_number-clause-puts
unfolding line_text
returns-in_err-put_number-clause-puts g c =
    first_of_four c.from_residual.result _ _ (number_text c.args.n) _ _ _ (search rules) c.in_err-put_number.ensures.puts

pub returns-in_err-put_two-clause-puts : goal.returns-in_err-put_two-clause-puts
unfolding line_text
returns-in_err-put_two-clause-puts g c =
    rw (← c.kind.ensures) (second_of_four c.from_residual-in_err-put_two.result _ _ _ (number_text c.args.n) (c.kind.result.now ++ codes " ") (param_set.name (set_of (test_view c.args.test.now)) ++ codes " ") (outcome_name c.args.outcome ++ codes "\n") (search rules) c.in_ok-put_number.ensures.puts c.in_err-put_two.ensures.puts)

pub returns-in_err-put_two-2-clause-puts : goal.returns-in_err-put_two-2-clause-puts
unfolding line_text
returns-in_err-put_two-2-clause-puts g c =
    rw (← c.kind.ensures, ← c.set.ensures, ← c.name.ensures) (third_of_four c.from_residual-in_err-put_two-2.result _ _ _ _ (number_text c.args.n) (c.kind.result.now ++ codes " ") (c.name.result.now ++ codes " ") (outcome_name c.args.outcome ++ codes "\n") (search rules) c.in_ok-put_number.ensures.puts c.in_ok-put_two.ensures.puts c.in_err-put_two-2.ensures.puts)

pub returns-clause-puts : goal.returns-clause-puts
unfolding line_text
returns-clause-puts g c =
    rw (← c.kind.ensures, ← c.set.ensures, ← c.name.ensures, ← c.name-2.ensures) (fourth_ended c.put_two-3.result _ _ _ _ _ (number_text c.args.n) (c.kind.result.now ++ codes " ") (c.name.result.now ++ codes " ") (c.name-2.result.now ++ codes "\n") c.in_ok-put_number.ensures.puts c.in_ok-put_two.ensures.puts c.in_ok-put_two-2.ensures.puts c.put_two-3.ensures.puts)
