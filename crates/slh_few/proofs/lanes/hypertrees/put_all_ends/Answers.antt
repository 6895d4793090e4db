-- After each turn the ends of one key more are written.
use Rattle.std.proofs.Common.{◌≡◌, ℕ, List, slice_index_or, slice_set, take, inl, inr, ap, ap₂, refl, subst, ◌∙◌, arith}
use Rattle.std.proofs.lemmas.Bool.{cases_lt}
use Rattle.std.proofs.lemmas.List.{get_or_default, get_or-set_same, get_or-set_other, length-set}
use Rattle.slh_params.specs.Params.{len}
use Rattle.slh_params.specs.ParamSet.{params}
use Rattle.slh_lanes.specs.Lanes.{value_at}
use Rattle.slh_few.specs.Chunks.{chunk, end_to_end}
use Rattle.slh_few.specs.HtSignatures.{pk_seed_of}
use Rattle.slh_few.specs.Wots.{finished_chain}
use Rattle.slh_few.specs.Xmss.{place, wots_sig_len, xmss_sig_len}
use Rattle.slh_few.specs.declared.hypertree.HtSignature.{HtSignature}
use Rattle.slh_few.specs.declared.place.Place.{Place}
use Rattle.slh_few.proofs.lanes.hypertrees.put_all_ends.Goals as goal

pub loop-j-preserved : goal.loop-j-preserved
loop-j-preserved c = record {
  count = length-set _ _ _ ∙ c.loop-j.invariant.count;
  ends = λ i x at e lt.
      let p = params c.args.set in
      let j : ℕ = c.loop-j.j in
      let old : List (List ℕ) = c.loop-j.ends in
      let out : List ℕ = c.put_ends_of.new.out in
      let signed = c.args.signed.now in
      let places = c.args.places.now in
      let made : HtSignature → Place → ℕ → List ℕ = λ y a k. end_to_end (finished_chain p (pk_seed_of y) a (value_at c.args.nodes.now k p.n)
      (take (wots_sig_len p) (chunk (xmss_sig_len p) y.sig.now c.args.layer))) (len p) in
      elim (cases_lt i j) [
        | inl low ↦ ap (take (wots_sig_len p)) (get_or-set_other old j i _ e (λ s. omega (arith, s, low))) ∙ c.loop-j.invariant.ends i x at e low
        | inr ge ↦
            let same : j ≡ i = omega (arith, lt, ge) in
            let below = c.loop-j-test.true in
            let own = get_or_default signed j c.index-signed-j.result x (omega (arith, c.told-signed, below)) in
            let here = get_or_default places j (place 0 0 0) at (omega (arith, c.told-places, below)) in
            let made_here = c.if-not-put_ends_of.ensures refl
            ∙ ap (λ (m : List ℕ). end_to_end (finished_chain p (pk_seed_of (slice_index_or signed j c.index-signed-j.result)) (slice_index_or places j (place 0 0 0)) m
            (take (wots_sig_len p) (chunk (xmss_sig_len p) (slice_index_or signed j c.index-signed-j.result).sig.now c.args.layer))) (len p))
            (c.lane_node-msg.ensures.value ∙ ap (value_at c.args.nodes.now j) c.n-n.ensures)
            ∙ ap₂ (λ (y : HtSignature) (a : Place). made y a j) own here in
            subst (λ (k : ℕ). take (wots_sig_len p) (slice_index_or (slice_set old j out) k e) ≡ made (slice_index_or signed k x) (slice_index_or places k at) k) same
            (ap (take (wots_sig_len p)) (get_or-set_same old j out e (omega (arith, c.loop-j.invariant.count, below))) ∙ made_here)
      ];
}
