use Rattle.std.proofs.Common.{sym, ◌∙◌}
use Rattle.slh_c.proofs.Standard.{is_1, is_2, is_3, is_4, is_5, is_6}
use Rattle.slh_c.proofs.key_files.number_of.Goals as goal

pub returns-in-text : goal.returns-in-text
returns-in-text c = is_1 c.args.set c.requires (sym c.name.ensures ∙ c.in-text.is)

pub returns-in-text-2 : goal.returns-in-text-2
returns-in-text-2 c = is_2 c.args.set c.requires (sym c.name.ensures ∙ c.in-text-2.is)

pub returns-in-text-3 : goal.returns-in-text-3
returns-in-text-3 c = is_3 c.args.set c.requires (sym c.name.ensures ∙ c.in-text-3.is)

pub returns-in-text-4 : goal.returns-in-text-4
returns-in-text-4 c = is_4 c.args.set c.requires (sym c.name.ensures ∙ c.in-text-4.is)

pub returns-in-text-5 : goal.returns-in-text-5
returns-in-text-5 c = is_5 c.args.set c.requires (sym c.name.ensures ∙ c.in-text-5.is)

pub returns-in_default : goal.returns-in_default
returns-in_default c = is_6 c.args.set c.requires
    (λ e. c.in_default.not-text (c.name.ensures ∙ e)) (λ e. c.in_default.not-text-2 (c.name.ensures ∙ e))
    (λ e. c.in_default.not-text-3 (c.name.ensures ∙ e)) (λ e. c.in_default.not-text-4 (c.name.ensures ∙ e))
    (λ e. c.in_default.not-text-5 (c.name.ensures ∙ e))
