-- After each node one more is in its lane and copied.
use Rattle.std.proofs.Common.{◌≡◌, ℕ, ◌+◌, ◌*◌, List, length, take, inl, inr, arith, subst, sym, ap, ◌∙◌}
use Rattle.std.proofs.lemmas.Bool.{cases_lt}
use Rattle.slh_lanes.specs.Lanes.{value_at}
use Rattle.slh_few.specs.Chunks.{end_to_end}
use Rattle.slh_few.proofs.Ends.{writes-more}
use Rattle.slh_jobs.specs.Ranges.{node_given}
use Rattle.slh_jobs.proofs.answer_bytes.copied_group.Goals as goal

pub loop-j-preserved : goal.loop-j-preserved
loop-j-preserved c =
    let r : ℕ = c.args.r in
    let j : ℕ = c.loop-j.j in
    let node : ℕ → List ℕ = λ i. node_given c.args.given.now.shape c.args.given.now.bytes.now (c.args.first + i) in
    let long : length c.node-node.result.items ≡ 16 = c.node-node.ensures.len ∙ c.requires.n in
    let next : r + j + 1 ≡ r + (j + 1) = omega arith in
    record {
      len = c.put_node.auto.out ∙ c.loop-j.invariant.len;
      lanes = λ i lt. elim (cases_lt i j) [
        | inl below ↦ c.set_lane.ensures.others i 16 (omega arith) ∙ c.loop-j.invariant.lanes i below
        | inr ge ↦
            let at : j ≡ i = omega (arith, lt, ge) in
            let own : c.deref.result.now ≡ node (r + j) = c.deref.ensures.0 ∙ c.node-node.ensures.value in
            let size : length c.deref.result.now ≡ 16 = ap length c.deref.ensures.0 ∙ long in
            subst (λ (k : ℕ). value_at c.set_lane.new.nodes k 16 ≡ node (r + k)) at
            (ap (value_at c.set_lane.new.nodes j) (sym size) ∙ c.set_lane.ensures.set ∙ own)
      ];
      copied = λ start. subst (λ (k : ℕ). take (k * 16) c.put_node.new.out ≡ end_to_end node k) next
          (writes-more node (r + j) 16 c.loop-j.copies c.put_node.new.out c.node-node.result.items c.node-node.ensures.value long (c.loop-j.invariant.copied start) c.put_node.ensures.written);
    }
