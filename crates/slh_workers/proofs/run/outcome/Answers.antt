-- The draws of all seats cover the jobs, each once, so in the order of the numbers each job has its answer.
use Rattle.std.proofs.Common.{rules, subst, sym, Ok}
use Rattle.slh_workers.specs.Answers.{Covers, InPlace}
use Rattle.slh_workers.specs.Runs.{HaveEnded}
use Rattle.slh_workers.proofs.Covered.{draws_cover}
use Rattle.slh_workers.proofs.run.outcome.Goals as goal

pub by_number-requires-clause-covers : goal.by_number-requires-clause-covers
by_number-requires-clause-covers g c =
    let ended : HaveEnded c.args.board (Ok c.in-Ok.ran) = subst (λ v. HaveEnded c.args.board v) c.in-Ok.is c.requires in
    subst (λ n. Covers n c.in-Ok.ran.1.items) (sym c.jobs-count.ensures)
    (draws_cover c.args.board (Unit {0}) (λ _ _. Unit {0}) (λ _ _. Unit {0}) c.args.board.jobs 0 c.args.board.seats c.finish.result.drawn c.finish.result.stopped
    c.in-Ok.ran.0.items c.in-Ok.ran.1.items ended.1.0 ended.0 (search rules) c.finish.ensures.stopped c.finish.ensures.seen (search rules) c.finish.ensures.each_once)

pub returns-clause-answered : goal.returns-clause-answered
returns-clause-answered g c =
    let ended : HaveEnded c.args.board (Ok c.in-Ok.ran) = subst (λ v. HaveEnded c.args.board v) c.in-Ok.is c.requires in
    let covers : Covers c.args.board.jobs c.in-Ok.ran.1.items =
    draws_cover c.args.board (Unit {0}) (λ _ _. Unit {0}) (λ _ _. Unit {0}) c.args.board.jobs 0 c.args.board.seats c.finish.result.drawn c.finish.result.stopped
    c.in-Ok.ran.0.items c.in-Ok.ran.1.items ended.1.0 ended.0 (search rules) c.finish.ensures.stopped c.finish.ensures.seen (search rules) c.finish.ensures.each_once in
    let placed : InPlace c.args.board.jobs c.in-Ok.ran.1.items c.in_ok-by_number.field-0.items
    = subst (λ n. InPlace n c.in-Ok.ran.1.items c.in_ok-by_number.field-0.items) c.jobs-count.ensures c.in_ok-by_number.ensures in
    rw c.in-Ok.is (covers, placed)
