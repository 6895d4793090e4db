-- Each lane holds its message, which is the root below layer 0.
use Rattle.std.proofs.Common.{◌≡◌, ℕ, length, slice_index_or, inl, inr, ap, sym, subst, ◌∙◌, arith}
use Rattle.std.proofs.lemmas.Bool.{cases_lt}
use Rattle.std.proofs.lemmas.List.{get_or_default}
use Rattle.slh_params.specs.ParamSet.{params}
use Rattle.slh_lanes.specs.Lanes.{value_at}
use Rattle.slh_lanes.proofs.NodeLengths.{n_whole}
use Rattle.slh_few.specs.HtSignatures.{pk_seed_of}
use Rattle.slh_few.specs.declared.hypertree.HtSignature.{HtSignature}
use Rattle.slh_few.proofs.HtLaw.{root_below-start}
use Rattle.slh_few.proofs.lanes.hypertrees.messages_of.Goals as goal

pub set_lane-requires-clause-whole : goal.set_lane-requires-clause-whole
set_lane-requires-clause-whole c =
    let under = c.requires c.loop-j.j c.index-signed-j.result c.loop-j-test.true in
    rw (ap length c.deref.ensures.0 ∙ under.2) (n_whole c.args.set)

pub loop-j-preserved : goal.loop-j-preserved
loop-j-preserved c = λ i x lt.
    let signed = c.args.signed.now in
    let new = c.set_lane.new.nodes in
    let n : ℕ = (params c.args.set).n in
    let j : ℕ = c.loop-j.j in
    elim (cases_lt i j) [
      | inl low ↦ c.set_lane.ensures.others i n (λ e. omega (arith, e, low)) ∙ c.loop-j.invariant i x low
      | inr ge ↦
          let same : j ≡ i = omega (arith, lt, ge) in
          let under = c.requires j c.index-signed-j.result c.loop-j-test.true in
          let long = ap length c.deref.ensures.0 ∙ under.2 in
          let own = get_or_default signed j c.index-signed-j.result x (omega (arith, c.told-signed, c.loop-j-test.true)) in
          subst (λ (k : ℕ). value_at new k n ≡ (slice_index_or signed k x).msg.now.items) same
          (ap (value_at new j) (sym long) ∙ c.set_lane.ensures.set ∙ c.deref.ensures.0 ∙ ap (λ (s : HtSignature). s.msg.now.items) own)
    ]

pub returns : goal.returns
returns c = λ j x lane.
    let y = slice_index_or c.args.signed.now j x in
    c.loop-j.invariant j x (omega (arith, lane, c.loop-j-test.false))
    ∙ root_below-start (params c.args.set) (pk_seed_of y) y.msg.now.items y.idx_tree y.idx_leaf y.sig.now
