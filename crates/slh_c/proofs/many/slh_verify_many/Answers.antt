-- All items are valid exactly if no verdict is another than 0.
use Rattle.std.proofs.Common.{Option, IsSomeAnd, length, sym, subst, ◌∙◌}
use Rattle.slh_params.specs.declared.param_set.ParamSet.{ParamSet}
use Rattle.slh_c.specs.Many.{AreSigned}
use Rattle.slh_c.specs.Numbers.{set_numbered}
use Rattle.slh_c.proofs.Judged.{number_some}
use Rattle.slh_c.proofs.VerdictsOfMany.{all_signed, not_refused}
use Rattle.slh_c.proofs.many.slh_verify_many.Goals as goal

pub returns-in-Ok-clause-valid : goal.returns-in-Ok-clause-valid
returns-in-Ok-clause-valid c =
    let items = c.args.items.now in
    let told = c.in-Ok.ensures in
    let all = all_signed c.args.set c.in-Ok.of items c.put_verdicts.new.verdicts told.set (c.put_verdicts.auto.verdicts ∙ told.len) c.put_verdicts.ensures in
    let InSet : Option ParamSet → Type 0 = λ o. IsSomeAnd o (λ s. AreSigned s items) in (
      λ done. (told.len, subst InSet (sym told.set) (all.0 (sym c.first_fault.ensures ∙ done))),
      λ both. c.first_fault.ensures ∙ all.1 (subst InSet told.set both.1),
    )

pub returns-in-Err-clause-valid : goal.returns-in-Err-clause-valid
returns-in-Err-clause-valid c = (
  λ done. absurd (number_some c.in-Err.refusal (sym c.number-in-Err.ensures ∙ done)),
  λ both. c.number-in-Err.ensures ∙ sym c.in-Err.ensures.refused
      ∙ not_refused (set_numbered c.args.set) _ c.args.verdicts.now (length c.args.items.now) both.0 both.1,
)
