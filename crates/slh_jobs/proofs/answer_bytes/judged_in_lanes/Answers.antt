-- After each group its nodes are copied, and have their tags.
use Rattle.std.proofs.Common.{◌≡◌, ℕ, ◌+◌, ◌-◌, ◌*◌, ◌<◌, ◌≤◌, min, List, take, inl, inr, refl, arith, subst, sym, ◌∙◌}
use Rattle.std.proofs.lemmas.Bool.{cases_lt}
use Rattle.slh_few.specs.Chunks.{end_to_end}
use Rattle.slh_few.proofs.Ends.{end_to_end-none}
use Rattle.slh_jobs.specs.Ranges.{node_given, tag_given}
use Rattle.slh_jobs.specs.Tags.{node_tag}
use Rattle.slh_jobs.proofs.GroupTags.{group_tags}
use Rattle.slh_jobs.proofs.answer_bytes.judged_in_lanes.Goals as goal

pub loop-group-init : goal.loop-group-init
loop-group-init c =
    let none : min 0 c.ranges-count.result ≡ 0 = omega arith in
    record {
      len = refl;
      copied = rw none (sym (end_to_end-none _));
      tags = λ p key front is begun r lt. absurd (omega (arith, lt, none));
    }

pub returns-then-not-have_tags-clause-tags : goal.returns-then-not-have_tags-clause-tags
returns-then-not-have_tags-clause-tags c = λ p key front n begun.
    let r : ℕ = 8 * c.loop-group.group in
    let few : c.min-used.result ≤ 8 = omega (arith, c.min-used.ensures) in
    let tags = group_tags p key front c.args.given.now.shape c.args.given.now.bytes.now c.args.job c.args.first r c.min-used.result
    c.copied_group-nodes.result c.digests-values.result n few c.copied_group-nodes.ensures.lanes (c.digests-values.ensures key front begun) in (
      λ yes. absurd cc,
      λ have. sym c.if-not-have_tags.true
          ∙ c.have_tags.ensures.1 (λ j lt. tags j lt ∙ have (r + j) (omega (arith, lt, c.min-used.ensures, c.ranges-count.ensures.value))),
    )

pub loop-group-preserved : goal.loop-group-preserved
loop-group-preserved c =
    let r : ℕ = 8 * c.loop-group.group in
    let used : ℕ = c.min-used.result in
    let shape = c.args.given.now.shape in
    let bytes : List ℕ = c.args.given.now.bytes.now in
    let node : ℕ → List ℕ = λ i. node_given shape bytes (c.args.first + i) in
    let few : used ≤ 8 = omega (arith, c.min-used.ensures) in
    let inside : r < c.ranges-count.result = omega (arith, c.loop-group-test.true, c.div_ceil-group-end.ensures) in
    let done : min r c.ranges-count.result ≡ r = omega (arith, inside) in
    let next : r + used ≡ min (8 * (c.loop-group.group + 1)) c.ranges-count.result = omega (arith, c.min-used.ensures, inside) in
    let copies = c.copied_group-nodes.new.copies in
    record {
      len = c.copied_group-nodes.ensures.len ∙ c.loop-group.invariant.len;
      copied = subst (λ (k : ℕ). take (k * 16) copies ≡ end_to_end node k) next
          (c.copied_group-nodes.ensures.copied (subst (λ (k : ℕ). take (k * 16) c.loop-group.copies ≡ end_to_end node k) done c.loop-group.invariant.copied));
      tags = λ p key front n begun i lt. elim (cases_lt i r) [
        | inl below ↦ c.loop-group.invariant.tags p key front n begun i (omega (arith, below, done))
        | inr ge ↦
            let j : ℕ = i - r in
            let same : r + j ≡ i = omega (arith, ge) in
            let own : j < used = omega (arith, lt, next, ge) in
            let tag = group_tags p key front shape bytes c.args.job c.args.first r used
            c.copied_group-nodes.result c.digests-values.result n few c.copied_group-nodes.ensures.lanes (c.digests-values.ensures key front begun) j own in
            subst (λ (k : ℕ). node_tag p key front (c.args.job + k) (node k) ≡ tag_given shape bytes (c.args.first + k)) same
            (sym tag ∙ c.have_tags.ensures.0 c.if-not-have_tags.false j own)
      ];
    }
