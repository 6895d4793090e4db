-- The least number is that of its lane.
use Rattle.std.proofs.Common.{◌≡◌, ℕ, ◌+◌, ◌*◌, ◌%◌, slice_index, inl, inr, arith}
use Rattle.std.proofs.lemmas.Bool.{cases_lt}
use Rattle.slh_few.proofs.lanes.running_chains.least_lane.Goals as goal

pub loop-j-preserved : goal.loop-j-preserved
loop-j-preserved c =
    let j : ℕ = c.loop-j.j in
    let old = c.loop-j.invariant in
    let here : ℕ = 8 * slice_index c.args.numbers j + j in
    let is = c.min-least.ensures in
    record {
      least = λ i lt. elim (cases_lt i j) [
        | inl low ↦ omega (arith, is, old.least i low)
        | inr ge ↦ let e : i ≡ j = omega arith in rw e (omega (arith, is))
      ];
      found = elim (cases_lt here c.loop-j.least) [
        | inl lt ↦ inr (j, c.loop-j-test.true, omega (arith, is, lt))
        | inr ge ↦ elim old.found [
          | inl none ↦ inl (omega (arith, is, ge, none))
          | inr found ↦ inr (found.0, found.1, omega (arith, is, ge, found.2))
        ]
      ];
    }

pub returns-clause-least : goal.returns-clause-least
returns-clause-least c = λ j lane.
    let least = c.loop-j.invariant.least in
    elim c.loop-j.invariant.found [
      | inl none ↦ absurd (omega (arith, none, least 0 (omega arith), c.requires 0 (omega arith)))
      | inr found ↦
          let at : c.loop-j.least % 8 ≡ found.0 = omega (arith, found.1, found.2) in
          rw at (omega (arith, found.2, found.1, least j (omega (arith, lane))))
    ]
