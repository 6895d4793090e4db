-- One item more is of the set.
use Rattle.std.proofs.Common.{◌≡◌, ℕ, length, slice_index_or, inl, inr, ap, sym, subst, ◌∙◌, arith}
use Rattle.std.proofs.lemmas.Bool.{cases_lt}
use Rattle.std.proofs.lemmas.List.{get_or_default}
use Rattle.slh_core.specs.EightSignatures.{IsOfSet}
use Rattle.slh_core.specs.declared.eight.SignedParts.{SignedParts}
use Rattle.slh_core.proofs.SameSets.{equal_sets}
use Rattle.slh_core.proofs.eight.are_of_set.Goals as goal

pub loop-j-preserved : goal.loop-j-preserved
loop-j-preserved c = λ i x lt.
    let items = c.args.items.now in
    let j : ℕ = c.loop-j.j in
    elim (cases_lt i j) [
      | inl low ↦ c.loop-j.invariant i x low
      | inr ge ↦
          let same : j ≡ i = omega (arith, lt, ge) in
          let y = c.index-items-j.result in
          let own = get_or_default items j y x (omega (arith, c.told-items, c.loop-j-test.true)) in
          let set = sym c.set.ensures ∙ equal_sets c.set.result c.args.set c.if-ne.ensures in
          let last = get_or_default items j c.index-items-j-else-ne.result x (omega (arith, c.told-items, c.loop-j-test.true)) in
          let long = ap (λ (z : SignedParts). length z.sig.now) (sym last) ∙ c.if-items-j.false ∙ c.sig_len.ensures in
          subst (λ (k : ℕ). IsOfSet c.args.set (slice_index_or items k x)) same
          (ap (λ (z : SignedParts). z.pk.now.set) (sym own) ∙ set, long)
    ]
