use Rattle.std.proofs.Common.{◌≡◌, ℕ, ◌*◌, List, length, set, slice_index, inl, inr, arith, sym, ap, ◌∙◌}
use Rattle.std.proofs.lemmas.List.{get_or-set_same, get_or-set_other, length-map, length-set}
use Rattle.std.proofs.lemmas.Bool.{cases_lt}
use Rattle.sha2.specs.Sha512.{word_at as long_word_at}
use Rattle.slh_lanes.specs.Columns.{column}
use Rattle.slh_lanes.proofs.Columns.{column_set, splat_lane}
use Rattle.slh_lanes.proofs.bytes.load_all_long.Goals as goal

pub words-preserved : goal.words-preserved
words-preserved c = (
  length-set _ _ _ ∙ c.words.invariant.0,
  λ j lane i lt.
      let old : List ℕ = column j c.words.words in
      let at : ℕ = c.words.k in
      let new : ℕ = c.load_be_long.result in
      let long : length old ≡ length c.words.words = length-map _ _ in
      let written = ap (λ (l : List ℕ). slice_index l i) (column_set j c.words.words at _ ∙ ap (λ (w : ℕ). set old at w) (splat_lane new j lane)) in
      elim (cases_lt i at) [
        | inl below ↦ written ∙ get_or-set_other old at i new 0 (omega arith) ∙ c.words.invariant.1 j lane i below
        | inr ge ↦
            let e : i ≡ at = omega arith in
            written ∙ ap (λ (q : ℕ). slice_index (set old at new) q) e ∙ get_or-set_same old at new 0 (omega (arith, long))
            ∙ c.load_be_long.ensures ∙ ap (λ (q : ℕ). long_word_at c.args.bytes.now (8 * q)) (sym e)
      ],
)
