-- R and the rest fill the output, and the signature of a generated key is valid.
use Rattle.std.proofs.Common.{List, ℕ, ◌≤◌, length, length-take-le, rules, arith, sym, subst, ◌∙◌}
use Rattle.slh_params.specs.ParamSet.{params}
use Rattle.slh_params.proofs.Bounds.{m_high}
use Rattle.slh_hash.specs.Keyed.{joined}
use Rattle.slh_core.specs.Keys.{public_of}
use Rattle.slh_core.specs.Signatures.{signature, IsValid}
use Rattle.slh_core.proofs.Lengths.{r_fits}
use Rattle.slh_core.proofs.Valid.{signature_valid}
use Rattle.slh_core.proofs.signing.sign_internal.Goals as goal

-- the buffer has room for the digest of any set
pub slice_bounds-buffer-end : goal.slice_bounds-buffer-end
slice_bounds-buffer-end c = omega (arith, c.m.ensures, m_high c.set-set.result)

pub slice_bounds-digest-end : goal.slice_bounds-digest-end
slice_bounds-digest-end c =
    let fits : c.m.result ≤ 122 = omega (arith, c.m.ensures, m_high c.set-set.result) in
    sym (length-take-le c.m.result _ fits)

pub randomized_digest-r-requires-clause-digest : goal.randomized_digest-r-requires-clause-digest
randomized_digest-r-requires-clause-digest c =
    let fits : c.m.result ≤ 122 = omega (arith, c.m.ensures, m_high c.set-set.result) in
    length-take-le c.m.result _ fits ∙ rw c.set-set.ensures at c.m.ensures

pub sign_digest-requires-clause-digest : goal.sign_digest-requires-clause-digest
sign_digest-requires-clause-digest c =
    let fits : c.m.result ≤ 122 = omega (arith, c.m.ensures, m_high c.set-set.result) in
    c.randomized_digest-r.auto.digest ∙ length-take-le c.m.result _ fits ∙ rw c.set-set.ensures at c.m.ensures

pub split_at_mut-front-requires : goal.split_at_mut-front-requires
split_at_mut-front-requires c = r_fits (params c.args.sk.now.set) c.n.result (length c.args.out.now) (search rules) c.requires.out

pub returns-clause-signature : goal.returns-clause-signature
unfolding signature
returns-clause-signature c = search rules

pub returns-clause-authentic : goal.returns-clause-authentic
returns-clause-authentic c = λ gen.
    subst (λ (sig : List ℕ). IsValid (public_of c.args.sk.now) (joined c.args.parts.now) sig) (sym (returns-clause-signature c))
    (signature_valid c.args.sk.now (joined c.args.parts.now) _ gen)
