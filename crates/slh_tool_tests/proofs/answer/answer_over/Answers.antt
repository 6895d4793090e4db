use Rattle.std.proofs.Common.{◌∙◌, ap, ◌++◌}
use Rattle.slh_tool_tests.proofs.Answering.{replies_over}
use Rattle.slh_tool_tests.proofs.answer.answer_over.Goals as goal

pub returns : goal.returns
returns g c = λ done.
    let d = c.command-status.ensures.done done in
    let none = ap (λ v. v.items) c.new-output.ensures.writer ∙ c.new.ensures.items in
    let text = ap (λ v. v.items) c.into_inner.ensures ∙ d.2 ∙ ap (λ xs. xs ++ d.0) none in
    replies_over _ _ _ _ _ _ _ _ _ (ap (λ x. x.files.now) c.new-4.ensures.opener ∙ ap (λ x. x.now) c.new-3.ensures.files) c.new-4.ensures.failures text d.1
