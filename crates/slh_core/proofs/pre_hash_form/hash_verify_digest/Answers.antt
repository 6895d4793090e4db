-- What is judged are the parts of M' put end to end.
use Rattle.std.proofs.Common.{◌≤◌, ℕ, List, length, rules, sym, subst, ◌∙◌}
use Rattle.slh_core.specs.Signatures.{IsValid}
use Rattle.slh_core.proofs.pre_hash_form.hash_verify_digest.Goals as goal

pub returns-in-Some : goal.returns-in-Some
returns-in-Some c =
    let short : length c.args.ctx.now ≤ 255 = search rules in
    let same = c.parts.ensures ∙ c.in-Some.ensures.bytes in
    let P : List ℕ → Type 0 = λ m. IsValid c.args.pk.now m c.args.sig.now in
    (λ t. (short, subst P same (c.verify_internal.ensures.0 t)), λ v. c.verify_internal.ensures.1 (subst P (sym same) v.1))
