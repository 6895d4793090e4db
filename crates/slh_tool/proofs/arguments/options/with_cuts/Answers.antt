use Rattle.std.proofs.Common.{◌||◌, ◌∙◌, ap, ap₂, Bool}
use Rattle.std.proofs.lemmas.Result.{IfOk-weaker}
use Rattle.clap.specs.Words.{App, with_rule}
use Rattle.slh_tool.proofs.arguments.options.with_cuts.Goals as goal

pub returns : goal.returns
returns c =
    let first = c.optional.ensures in
    let second = c.optional-2.ensures in
    let one = c.in_ok-arg.ensures in
    IfOk-weaker c.arg-2.result _ _ (λ r h. (
      ap (λ (a : App). a.top) (h.shape second.local ∙ ap₂ with_rule (one.shape first.local ∙ ap (with_rule _) first.rule) second.rule),
      h.globals ∙ ap₂ (λ (a b : Bool). a || b) (one.globals ∙ ap₂ (λ (a b : Bool). a || b) c.requires first.local) second.local,
    )) c.arg-2.ensures
