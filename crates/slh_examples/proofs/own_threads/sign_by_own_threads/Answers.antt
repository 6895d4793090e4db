-- The answers of all jobs fit together, so that `sign_join` does not refuse them and gives the signature.
use Rattle.std.proofs.Common.{rules, ◌≡◌, [], length, ◌∙◌}
use Rattle.slh_core.specs.Messages.{pure_message}
use Rattle.slh_core.specs.declared.randomizer.Randomizer.TheVariants.{Deterministic}
use Rattle.slh_jobs.specs.Jobs.{AreAnswers, answers_len}
use Rattle.slh_jobs.specs.Starts.{start_by}
use Rattle.slh_examples.proofs.JobRanges.{over_all}
use Rattle.slh_examples.proofs.own_threads.sign_by_own_threads.Goals as goal

pub unreachable-requires-in_default-sign_join : goal.unreachable-requires-in_default-sign_join
unreachable-requires-in_default-sign_join g c =
    let size : length c.answer_all.new.answers ≡ c.in_ok-answers.answers.len = search (rules, c.answer_all.ensures.len, c.in_ok-answers.ensures.len, c.answers_len.ensures) in
    let value : c.deref.result.now ≡ c.answer_all.new.answers =
    c.deref.ensures.value ∙ over_all c.in_ok-answers.answers.len c.answer_all.new.answers c.in_ok-answers.answers.items size in
    let are : AreAnswers c.args.levels.now c.args.sk.now c.sign_start.new.start c.deref.result.now = rw value c.answer_all.ensures.answers in
    let len : length c.deref.result.now ≡ answers_len c.args.levels.now = rw value c.answer_all.ensures.len in
    let ok = c.sign_join.ensures.right c.requires.generated c.in-Ok.ensures.tagged are len in
    search (rules, ok, c.in_default-sign_join.is)

pub returns-clause-signature : goal.returns-clause-signature
returns-clause-signature g c =
    let size : length c.answer_all.new.answers ≡ c.in_ok-answers.answers.len = search (rules, c.answer_all.ensures.len, c.in_ok-answers.ensures.len, c.answers_len.ensures) in
    let value : c.deref.result.now ≡ c.answer_all.new.answers =
    c.deref.ensures.value ∙ over_all c.in_ok-answers.answers.len c.answer_all.new.answers c.in_ok-answers.answers.items size in
    let are : AreAnswers c.args.levels.now c.args.sk.now c.sign_start.new.start c.deref.result.now = rw value c.answer_all.ensures.answers in
    let start : c.sign_start.new.start ≡ start_by c.args.sk.now (pure_message [] c.args.msg.now) Deterministic = c.in-Ok.ensures.start in
    c.in-Ok-sign_join.ensures.message (pure_message [] c.args.msg.now) Deterministic start are

pub returns-clause-authentic : goal.returns-clause-authentic
returns-clause-authentic g c =
    let start : c.sign_start.new.start ≡ start_by c.args.sk.now (pure_message [] c.args.msg.now) Deterministic = c.in-Ok.ensures.start in
    c.in-Ok-sign_join.ensures.authentic (pure_message [] c.args.msg.now) Deterministic start
