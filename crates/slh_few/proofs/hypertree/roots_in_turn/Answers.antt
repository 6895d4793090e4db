-- After each turn one root more is there.
use Rattle.std.proofs.Common.{◌≡◌, ℕ, ◌+◌, List, [], ◌∷◌, ◌++◌, slice_index_or, inl, inr, ap, sym, subst, ◌∙◌, arith}
use Rattle.std.proofs.Math.ListN.{get_or-append}
use Rattle.std.proofs.Math.Seq.{get_or-append_seam}
use Rattle.std.proofs.lemmas.Bool.{cases_lt}
use Rattle.std.proofs.lemmas.List.{get_or_default}
use Rattle.arrayvec.specs.ArrayVec.{ArrayVec}
use Rattle.slh_params.specs.ParamSet.{params}
use Rattle.slh_params.specs.declared.param_set.ParamSet.{ParamSet}
use Rattle.slh_few.specs.Hypertree.{ht_root_from_sig}
use Rattle.slh_few.specs.HtSignatures.{pk_seed_of, top_root}
use Rattle.slh_few.proofs.hypertree.roots_in_turn.Goals as goal

pub loop-j-preserved : goal.loop-j-preserved
loop-j-preserved c = record {
  len = c.push.ensures.len ∙ ap (λ (k : ℕ). k + 1) c.loop-j.invariant.len;
  roots = λ i x d lt.
      let signed = c.args.signed.now in
      let old : List (ArrayVec ℕ) = c.loop-j.roots.items in
      let root : ArrayVec ℕ = c.ht_root_from_sig.result in
      let new = c.push.new.self.items in
      let j : ℕ = c.loop-j.j in
      let pushed = λ (k : ℕ). ap (λ (xs : List (ArrayVec ℕ)). (slice_index_or xs k d).items) c.push.ensures.items in
      elim (cases_lt i j) [
        | inl low ↦
            pushed i ∙ ap (λ (v : ArrayVec ℕ). v.items) (get_or-append old (root ∷ []) d i (omega (arith, low, c.loop-j.invariant.len)))
            ∙ c.loop-j.invariant.roots i x d low
        | inr ge ↦
            let same : j ≡ i = omega (arith, lt, ge) in
            let y = slice_index_or signed j c.index-signed-j.result in
            let under = c.requires j c.index-signed-j.result c.loop-j-test.true in
            let own = get_or_default signed j c.index-signed-j.result x (omega (arith, c.told-signed, c.loop-j-test.true)) in
            let last : slice_index_or (old ++ root ∷ []) j d ≡ root = ap (λ (k : ℕ). slice_index_or (old ++ root ∷ []) k d) (sym c.loop-j.invariant.len) ∙ get_or-append_seam old root [] d in
            subst (λ (k : ℕ). (slice_index_or new k d).items ≡ top_root c.args.set (slice_index_or signed k x)) same
            (pushed j ∙ ap (λ (v : ArrayVec ℕ). v.items) last ∙ c.ht_root_from_sig.ensures
            ∙ ap (λ (s : ParamSet). ht_root_from_sig (params s) (pk_seed_of y) y.msg.now.items y.idx_tree y.idx_leaf y.sig.now) under.0
            ∙ ap (top_root c.args.set) own)
      ];
}
