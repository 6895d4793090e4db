use Rattle.std.proofs.Common.{refl, sym, ap, ◌∙◌}
use Rattle.slh_params.specs.ParamSet.{is, name, params, set_named, S128s, S128f, S192s, S192f, S256s}
use Rattle.slh_key_files.specs.Pkix.{key_front}
use Rattle.slh_key_files.specs.declared.key_kind.KeyKind.TheVariants.{Secret}
use Rattle.slh_key_files.proofs.Forms.{last_set, of_name}
use Rattle.slh_key_files.proofs.pkix.secret_prefix.Goals as goal

pub returns-in-text : goal.returns-in-text
unfolding set_named name is params
returns-in-text c = sym (ap (key_front Secret) (of_name c.args.set S128s _ c.requires (sym c.name.ensures ∙ c.in-text.is) refl))

pub returns-in-text-2 : goal.returns-in-text-2
unfolding set_named name is params
returns-in-text-2 c = sym (ap (key_front Secret) (of_name c.args.set S128f _ c.requires (sym c.name.ensures ∙ c.in-text-2.is) refl))

pub returns-in-text-3 : goal.returns-in-text-3
unfolding set_named name is params
returns-in-text-3 c = sym (ap (key_front Secret) (of_name c.args.set S192s _ c.requires (sym c.name.ensures ∙ c.in-text-3.is) refl))

pub returns-in-text-4 : goal.returns-in-text-4
unfolding set_named name is params
returns-in-text-4 c = sym (ap (key_front Secret) (of_name c.args.set S192f _ c.requires (sym c.name.ensures ∙ c.in-text-4.is) refl))

pub returns-in-text-5 : goal.returns-in-text-5
unfolding set_named name is params
returns-in-text-5 c = sym (ap (key_front Secret) (of_name c.args.set S256s _ c.requires (sym c.name.ensures ∙ c.in-text-5.is) refl))

pub returns-in_default : goal.returns-in_default
unfolding is params
returns-in_default c = sym (ap (key_front Secret) (last_set c.args.set c.requires
    (λ e. c.in_default.not-text (c.name.ensures ∙ e)) (λ e. c.in_default.not-text-2 (c.name.ensures ∙ e))
    (λ e. c.in_default.not-text-3 (c.name.ensures ∙ e)) (λ e. c.in_default.not-text-4 (c.name.ensures ∙ e))
    (λ e. c.in_default.not-text-5 (c.name.ensures ∙ e))))
