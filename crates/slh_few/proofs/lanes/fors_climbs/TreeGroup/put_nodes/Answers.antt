-- The place of a tree in a group is its lane.
use Rattle.std.proofs.Common.{◌≡◌, ℕ, ◌+◌, ◌-◌, ◌*◌, ◌<◌, slice_index, arith, refl, ap, sym, inl, inr, ◌∙◌}
use Rattle.std.proofs.lemmas.Bool.{cases_lt}
use Rattle.slh_few.specs.Chunks.{chunk}
use Rattle.slh_few.proofs.Ends.{chunk_fits}
use Rattle.slh_few.proofs.lanes.fors_climbs.TreeGroup.put_nodes.Goals as goal

pub put_lanes-requires-clause-out : goal.put_lanes-requires-clause-out
put_lanes-requires-clause-out c = λ j low.
    let t = c.args.self.now in
    let lane : j < 8 = omega (arith, low, c.requires.used) in
    let lt : t.first.tree_no + j < t.first.tree_no + t.used = omega (arith, low) in
    rw (c.consecutive.ensures j lane) (omega (arith, chunk_fits (t.first.tree_no + j) (t.first.tree_no + t.used) c.args.n ((t.first.tree_no + t.used) * c.args.n) lt refl, c.requires.out))

pub returns : goal.returns
returns c = λ f values before i low.
    let t = c.args.self.now in
    let at : (j : ℕ) → j < t.used → slice_index c.consecutive.result j ≡ t.first.tree_no + j = λ j lt.
    c.consecutive.ensures j (omega (arith, lt, c.requires.used)) in
    let values_at : (j : ℕ) → j < t.used → _ = λ j lt. values j lt ∙ ap f (sym (at j lt)) in
    elim (cases_lt i t.first.tree_no) [
      | inl first ↦ c.put_lanes.ensures.kept f values_at i (before i first)
      | inr ge ↦
          let j : ℕ = i - t.first.tree_no in
          let own : j < t.used = omega (arith, low) in
          let here : t.first.tree_no + j ≡ i = omega arith in
          let place = at j own ∙ here in
          ap (chunk c.args.n c.put_lanes.new.out) (sym place) ∙ c.put_lanes.ensures.written f values_at j own ∙ ap f place
    ]
