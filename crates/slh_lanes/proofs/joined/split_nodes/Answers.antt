use Rattle.std.proofs.Common.{◌≡◌, ◌+◌, ◌*◌, ◌<◌, [], length, set, inl, inr, arith, ap, ◌∙◌}
use Rattle.std.proofs.lemmas.Bool.{cases_lt}
use Rattle.std.proofs.lemmas.List.{get_or-set_same, get_or-set_other, length-set}
use Rattle.slh_lanes.specs.Columns.{column}
use Rattle.slh_lanes.proofs.joined.split_nodes.Goals as goal

pub returns : goal.returns
returns over c = λ g j in_batch lane.
    let old = c.args.batch.now in
    let x = c.part_of_eight.result in
    let y = c.part_of_eight-2.result in
    elim (cases_lt g 1) [
      | inl low ↦
          let e : g ≡ 0 = omega (arith, low) in
          let at : 0 + j ≡ 8 * g + j = omega (arith, e) in
          let first : 0 < length old = omega (arith, c.told-batch, c.requires) in
          rw e (ap (column j) (get_or-set_other (set old 0 x) 1 0 y [] (λ o. omega (arith, o)) ∙ get_or-set_same old 0 x [] first))
          ∙ rw at at (c.part_of_eight.ensures j lane)
      | inr ge ↦
          let e : g ≡ 1 = omega (arith, ge, in_batch, c.requires) in
          let at : 8 + j ≡ 8 * g + j = omega (arith, e) in
          let second : 1 < length (set old 0 x) = omega (arith, length-set old 0 x, c.told-batch, c.requires) in
          rw e (ap (column j) (get_or-set_same (set old 0 x) 1 y [] second)) ∙ rw at at (c.part_of_eight-2.ensures j lane)
    ]
