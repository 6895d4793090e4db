-- Each lane holds the node of its signature's path.
use Rattle.std.proofs.Common.{◌≡◌, ℕ, ◌+◌, List, length, slice_index_or, inl, inr, ap, sym, subst, ◌∙◌, arith}
use Rattle.std.proofs.lemmas.Bool.{cases_lt}
use Rattle.std.proofs.lemmas.List.{get_or_default}
use Rattle.slh_params.specs.ParamSet.{params}
use Rattle.slh_lanes.specs.Lanes.{value_at}
use Rattle.slh_lanes.proofs.NodeLengths.{n_whole}
use Rattle.slh_few.specs.Chunks.{chunk}
use Rattle.slh_few.specs.Xmss.{xmss_sig_len}
use Rattle.slh_few.specs.declared.hypertree.HtSignature.{HtSignature}
use Rattle.slh_few.proofs.Ends.{chunk_fits}
use Rattle.slh_few.proofs.lanes.hypertrees.path_nodes.Goals as goal

pub chunk_at-sig-requires : goal.chunk_at-sig-requires
chunk_at-sig-requires c =
    let p = params c.args.set in
    let x = slice_index_or c.args.signed.now c.loop-j.j c.index-signed-j.result in
    let under = c.requires.signed c.loop-j.j c.index-signed-j.result c.loop-j-test.true in
    rw c.xmss_sig_len.ensures.value (chunk_fits c.args.layer p.d (xmss_sig_len p) (length x.sig.now) c.requires.layer under.3)

pub set_lane-requires-clause-whole : goal.set_lane-requires-clause-whole
set_lane-requires-clause-whole c = rw (c.chunk_at.ensures.len, c.n-n.ensures) (n_whole c.args.set)

pub loop-j-preserved : goal.loop-j-preserved
loop-j-preserved c = λ i x lt.
    let signed = c.args.signed.now in
    let new = c.set_lane.new.nodes in
    let n : ℕ = c.n-n.result in
    let j : ℕ = c.loop-j.j in
    let l : ℕ = c.args.layer in
    let place : ℕ = c.len.result + c.args.z in
    let size : ℕ = xmss_sig_len (params c.args.set) in
    elim (cases_lt i j) [
      | inl low ↦ c.set_lane.ensures.others i n (λ e. omega (arith, e, low)) ∙ c.loop-j.invariant i x low
      | inr ge ↦
          let same : j ≡ i = omega (arith, lt, ge) in
          let d = c.index-signed-j.result in
          let own = get_or_default signed j d x (omega (arith, c.told-signed, c.loop-j-test.true)) in
          let sig = c.chunk_at-sig.ensures.value ∙ ap (λ (k : ℕ). chunk k (slice_index_or signed j d).sig.now l) c.xmss_sig_len.ensures.value
          ∙ ap (λ (s : HtSignature). chunk size s.sig.now l) own in
          subst (λ (k : ℕ). value_at new k n ≡ chunk n (chunk size (slice_index_or signed k x).sig.now l) place) same
          (ap (value_at new j) (sym c.chunk_at.ensures.len) ∙ c.set_lane.ensures.set ∙ c.chunk_at.ensures.value ∙ ap (λ (s : List ℕ). chunk n s place) sig)
    ]
