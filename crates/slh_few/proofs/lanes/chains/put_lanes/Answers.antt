-- One chunk more is written; the others stay as they were.
use Rattle.std.proofs.Common.{◌≡◌, ℕ, slice_index, inl, inr, ap, sym, ◌∙◌, arith}
use Rattle.std.proofs.lemmas.Bool.{cases_eq, cases_lt}
use Rattle.slh_few.specs.Chunks.{chunk}
use Rattle.slh_few.proofs.lanes.chains.put_lanes.Goals as goal

pub loop-j-preserved : goal.loop-j-preserved
loop-j-preserved c = λ f values.
    let n = c.args.n in
    let j : ℕ = c.loop-j.j in
    let place : ℕ = slice_index c.args.group.now j in
    let old = c.loop-j.invariant f values in
    let here : chunk n c.put_chunk.new.bytes place ≡ f place =
    c.put_chunk.ensures.set ∙ c.deref.ensures.0 ∙ c.lane_node.ensures.value ∙ values j c.loop-j-test.true in (
      λ i lt. elim (cases_eq (slice_index c.args.group.now i) place) [
        | inl e ↦ ap (chunk n c.put_chunk.new.bytes) e ∙ here ∙ ap f (sym e)
        | inr other ↦ elim (cases_lt i j) [
          | inl low ↦ c.put_chunk.ensures.others (slice_index c.args.group.now i) other ∙ old.0 i low
          | inr ge ↦ absurd (other (ap (λ k. slice_index c.args.group.now k) (let e : i ≡ j = omega arith in e)))
        ]
      ],
      λ d held. elim (cases_eq d place) [
        | inl e ↦ ap (chunk n c.put_chunk.new.bytes) e ∙ here ∙ ap f (sym e)
        | inr other ↦ c.put_chunk.ensures.others d other ∙ old.1 d held
      ],
    )
