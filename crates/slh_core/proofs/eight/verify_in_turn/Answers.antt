-- The verdict at the place is that of the item there, and the verdicts before it stay.
use Rattle.std.proofs.Common.{◌≡◌, ℕ, ◌<◌, get_or, set, length, length-set, inl, inr, ◌∙◌, arith, rules}
use Rattle.std.proofs.lemmas.Bool.{cases_eq}
use Rattle.std.proofs.lemmas.List.{get_or-set_same, get_or-set_other, get_or_default}
use Rattle.slh_core.proofs.eight.verify_in_turn.Goals as goal

pub loop-j-preserved : goal.loop-j-preserved
loop-j-preserved c =
    let j : ℕ = c.loop-j.j in
    let answers = c.loop-j.valid in
    let answer = c.verify_internal.result in
    let few : j < length answers = omega (arith, c.loop-j.invariant.0, c.loop-j-test.true) in (
      length-set answers j answer ∙ c.loop-j.invariant.0,
      λ i valid item h. elim (cases_eq i j) [
        | inl same ↦
            let a : get_or (set answers j answer) j valid ≡ answer = get_or-set_same answers j answer valid few in
            let own = c.index-items-j.result in
            let x : get_or c.args.items.now j own ≡ get_or c.args.items.now j item = get_or_default c.args.items.now j own item (search rules) in
            rw (same, a, ← x) c.verify_internal.ensures
        | inr other ↦
            let a : get_or (set answers j answer) i valid ≡ get_or answers i valid = get_or-set_other answers j i answer valid other in
            rw a (c.loop-j.invariant.1 i valid item (omega (arith, h, other)))
      ],
    )
