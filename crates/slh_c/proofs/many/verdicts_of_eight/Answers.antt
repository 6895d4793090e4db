-- The numbers of the verdicts on the first eight items.
use Rattle.std.proofs.Common.{◌≡◌, ℕ, Bool, true, List, get_or, sym, ap, subst, ◌∙◌}
use Rattle.std.proofs.lemmas.List.{get_or-take}
use Rattle.slh_c.specs.Many.{IsJudged, IsVerdict, number_of}
use Rattle.slh_c.specs.declared.many.Signed.{Signed}
use Rattle.slh_c.proofs.VerdictsOfMany.{verdict_of}
use Rattle.slh_c.proofs.many.verdicts_of_eight.Goals as goal

pub returns-clause-verdicts : goal.returns-clause-verdicts
returns-clause-verdicts c = λ j verdict item below.
    let valid : Bool = get_or c.in_ok-valid.valid j true in
    let number : get_or c.numbers_of.result j verdict ≡ number_of valid = c.numbers_of.ensures j verdict true below in
    let judged = c.in_ok-valid.ensures j true item below in
    let same : get_or c.in_ok-eight.eight.now j item ≡ get_or c.args.items.now j item =
    ap (λ (xs : List Signed). get_or xs j item) c.in_ok-eight.ensures.cases.same ∙ get_or-take 8 c.args.items.now j item below in
    subst (λ (v : ℕ). IsVerdict c.args.set (get_or c.args.items.now j item) v) (sym number)
    (verdict_of c.args.set c.args.of (get_or c.args.items.now j item) valid c.requires (subst (λ (x : Signed). IsJudged c.args.of x valid) same judged))
