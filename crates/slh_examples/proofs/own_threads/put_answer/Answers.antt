use Rattle.std.proofs.Common.{rules, arith, ◌≡◌, ◌+◌, ◌-◌, ◌≤◌, ◌++◌, length, take, ap, sym, ◌∙◌}
use Rattle.std.proofs.lemmas.Slice.{take-put_mid}
use Rattle.slh_jobs.specs.Jobs.{len_of}
use Rattle.slh_examples.proofs.own_threads.put_answer.Goals as goal

pub returns-clause-answer : goal.returns-clause-answer
returns-clause-answer c =
    let size = len_of c.args.begun.now.levels.now c.args.job in
    let len : length c.sign_job.new.answer ≡ size = search rules in
    let room : c.args.at ≤ length c.args.out.now = omega (arith, c.requires.room) in
    let end : c.args.at + size ≡ c.args.at + length c.sign_job.new.answer = ap (λ k. c.args.at + k) (sym len) in
    take-put_mid c.args.at (c.args.at + c.answer_len.result - c.args.at) c.args.out.now c.sign_job.new.answer (c.args.at + size) end room
    ∙ ap (λ x. take c.args.at c.args.out.now ++ x) c.in-Ok.ensures.answer
