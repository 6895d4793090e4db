-- After each range one node more is copied, and has its tag.
use Rattle.std.proofs.Common.{◌≡◌, ℕ, ◌+◌, ◌*◌, List, take, refl, ap, sym, ◌∙◌, arith}
use Rattle.slh_few.proofs.Ends.{end_to_end-none, writes-more}
use Rattle.slh_jobs.specs.Ranges.{node_given, tag_given}
use Rattle.slh_jobs.specs.Tags.{node_tag}
use Rattle.slh_jobs.proofs.Indices.{below_more}
use Rattle.slh_jobs.proofs.answer_bytes.judged_alone.Goals as goal

pub loop-r-init : goal.loop-r-init
loop-r-init c =
    let zero : 0 * c.args.given.now.shape.n ≡ 0 = omega arith in (
      ap (λ k. take k c.args.copies.now) zero ∙ sym (end_to_end-none _),
      λ p key front is i lt. absurd (omega (arith, lt)),
    )

pub loop-r-preserved : goal.loop-r-preserved
loop-r-preserved c =
    let s = c.args.given.now.shape in
    let bytes : List ℕ = c.args.given.now.bytes.now in
    let r = c.loop-r.r in
    let node : ℕ → List ℕ = λ i. node_given s bytes (c.args.first + i) in (
      writes-more node r s.n c.loop-r.copies c.put_node.new.out c.in-Some.node.items c.in-Some.ensures.node c.in-Some.ensures.len c.loop-r.invariant.0 c.put_node.ensures.written,
      λ p key front is.
          below_more (λ i. node_tag p key front (c.args.job + i) (node i) ≡ tag_given s bytes (c.args.first + i)) r (c.loop-r.invariant.1 p key front is) ((c.in-Some.ensures.tag p key front is).0 refl),
    )
