use Rattle.std.proofs.Common.{rules}
use Rattle.std.specs.List.{count_by}
use Rattle.slh_vectors.specs.Cases.{views}
use Rattle.slh_vectors.specs.Report.{counts_text, fails, lines_from, passes}
use Rattle.slh_io.proofs.Texts.{ended, stopped}
use Rattle.slh_vectors.proofs.lines.report.Goals as goal

pub returns-in_err-put_lines-clause-puts : goal.returns-in_err-put_lines-clause-puts
returns-in_err-put_lines-clause-puts g c =
    stopped c.from_residual.result _ _ (lines_from 1 (views c.args.tests.now) c.args.outcomes.now) (counts_text (count_by passes c.args.outcomes.now) (count_by fails c.args.outcomes.now)) (search rules) c.in_err-put_lines.ensures.puts

pub returns-clause-puts : goal.returns-clause-puts
returns-clause-puts g c =
    rw (← c.passed.ensures, ← c.failed.ensures) (ended c.put_counts.result _ _ _ (lines_from 1 (views c.args.tests.now) c.args.outcomes.now) (counts_text c.passed.result c.failed.result) c.in_ok-put_lines.ensures.puts c.put_counts.ensures.puts)
