-- Reading the key keeps the files, so the verdict is of the files as they were.
use Rattle.std.proofs.Common.{subst}
use Rattle.slh_io.specs.Devices.{FilesState}
use Rattle.slh_tool.specs.Replies.{JudgesWith, RefusesVerify}
use Rattle.slh_tool.specs.Requests.{verify_asked}
use Rattle.slh_tool.proofs.Refusals.{handed_on, verify_refused}
use Rattle.slh_tool.proofs.verify.verify_file.Goals as goal

pub returns-in_err-answer-clause-refused : goal.returns-in_err-answer-clause-refused
returns-in_err-answer-clause-refused g c =
    let old = g.F.Files.state c.args.files.now in
    let new = g.F.Files.state c.verify_with.new.files in
    handed_on (RefusesVerify (verify_asked c.args.words) old new) _ c.in_err-answer.field-0.0 c.from_residual-in_err-answer.ensures.1
    (verify_refused (verify_asked c.args.words) old (g.F.Files.state c.public_key.new.files) new
    c.in_ok-key.key c.in_err-answer.field-0.0 c.in_ok-key.ensures.done c.in_ok-key.ensures.kept c.in_err-answer.ensures.refused)

pub returns-clause-done : goal.returns-clause-done
returns-clause-done g c =
    let judged = subst (λ (s : FilesState). JudgesWith (verify_asked c.args.words) s c.in_ok-key.key c.in_ok-answer.answer) c.in_ok-key.ensures.kept c.in_ok-answer.ensures.done in
    (c.in_ok-key.key, c.in_ok-key.ensures.done, (c.in_ok-answer.answer, judged, c.in_ok-verdict.ensures))
