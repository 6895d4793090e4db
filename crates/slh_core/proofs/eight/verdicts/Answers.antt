-- The verdict at the place is that of the root there, and the verdicts before it stay.
use Rattle.std.proofs.Common.{◌≡◌, ℕ, ◌<◌, List, get_or, set, length, length-set, inl, inr, ap, ◌∙◌, arith, rules}
use Rattle.std.proofs.lemmas.Bool.{cases_eq}
use Rattle.std.proofs.lemmas.List.{get_or-set_same, get_or-set_other, get_or_default}
use Rattle.arrayvec.specs.ArrayVec.{ArrayVec}
use Rattle.slh_core.specs.Keys.{pk_root}
use Rattle.slh_core.specs.declared.eight.SignedParts.{SignedParts}
use Rattle.slh_core.proofs.eight.verdicts.Goals as goal

pub loop-j-preserved : goal.loop-j-preserved
loop-j-preserved c =
    let j : ℕ = c.loop-j.j in
    let answers = c.loop-j.valid in
    let answer = c.are_same.result in
    let few : j < length answers = omega (arith, c.loop-j.invariant.count, c.loop-j-test.true) in
    record {
      count = length-set answers j answer ∙ c.loop-j.invariant.count;
      each = λ i valid item d h. elim (cases_eq i j) [
        | inl same ↦
            let a : get_or (set answers j answer) j valid ≡ answer = get_or-set_same answers j answer valid few in
            let own = c.index-items-j.result in
            let x : get_or c.args.items.now j own ≡ get_or c.args.items.now j item = get_or_default c.args.items.now j own item (search rules) in
            let it = c.index-deref-j.result in
            let roots : List (ArrayVec ℕ) = c.args.roots.now.items in
            let root = c.as_slice.ensures.value ∙ ap (λ (v : ArrayVec ℕ). v.items) c.index-deref-j.is
            ∙ ap (λ (xs : List (ArrayVec ℕ)). (get_or xs j it).items) c.deref.ensures.0
            ∙ ap (λ (v : ArrayVec ℕ). v.items) (get_or_default roots j it d (omega (arith, c.requires, c.loop-j-test.true))) in
            let pk = c.pk_root.ensures.value ∙ ap (λ (y : SignedParts). pk_root y.pk.now) x in
            rw (same, a, ← root, ← pk) c.are_same.ensures
        | inr other ↦
            let a : get_or (set answers j answer) i valid ≡ get_or answers i valid = get_or-set_other answers j i answer valid other in
            rw a (c.loop-j.invariant.each i valid item d (omega (arith, h, other)))
      ];
    }
