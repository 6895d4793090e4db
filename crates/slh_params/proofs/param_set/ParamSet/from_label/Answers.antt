-- The bytes are the label of the one set that can have it, or of none.
use Rattle.std.proofs.Common.{◌≡◌, Some, None, true, false, refl, sym, ap, ◌∙◌}
use Rattle.std.proofs.lemmas.Slice.Eq.{bytes_eq-Decides}
use Rattle.slh_params.specs.Label.{label, set_of_label}
use Rattle.slh_params.proofs.Labelled.{set_of_label-found, set_of_label-label}
use Rattle.slh_params.proofs.param_set.ParamSet.from_label.Goals as goal

pub returns-else-eq-clause-none : goal.returns-else-eq-clause-none
returns-else-eq-clause-none c = λ _ set named.
    let same : c.in_ok-set.set ≡ set = cc (c.in_ok-set.ensures set named) in
    let text : c.as_bytes.result.now ≡ c.args.text.now = c.as_bytes.ensures.value ∙ c.as_str.ensures.value ∙ c.label-label.ensures ∙ ap label same ∙ named in
    let e : false ≡ true = sym c.if-eq.false ∙ c.eq.ensures ∙ (bytes_eq-Decides _ _).1 text in
    cc

pub returns-else-eq-clause-found : goal.returns-else-eq-clause-found
returns-else-eq-clause-found c = λ set named. absurd (returns-else-eq-clause-none c refl set named)

pub returns-else-eq-clause-labelled : goal.returns-else-eq-clause-labelled
returns-else-eq-clause-labelled c = set_of_label-found c.args.text.now None tt (returns-else-eq-clause-none c)

pub returns-then-eq-clause-labelled : goal.returns-then-eq-clause-labelled
returns-then-eq-clause-labelled c =
    let same : c.as_bytes.result.now ≡ c.args.text.now = (bytes_eq-Decides _ _).0 (sym c.eq.ensures ∙ c.if-eq.true) in
    let named : label c.in_ok-set.set ≡ c.args.text.now = sym c.label-label.ensures ∙ sym c.as_str.ensures.value ∙ sym c.as_bytes.ensures.value ∙ same in
    sym (set_of_label-label c.in_ok-set.set) ∙ ap set_of_label named

pub returns-in_err-set-clause-labelled : goal.returns-in_err-set-clause-labelled
returns-in_err-set-clause-labelled c =
    let nothing : c.from_residual.result ≡ None = search in
    let other : c.candidate.result ≡ None = search in
    nothing ∙ set_of_label-found c.args.text.now None tt (λ _ set e. let found : Some set ≡ None = sym (c.candidate.ensures set e) ∙ other in cc)
