use Rattle.std.proofs.Common.{◌≡◌, ℕ, List, length, slice_index, set, inl, inr, arith, sym, ap, ◌∙◌}
use Rattle.std.proofs.lemmas.Bool.{cases_lt}
use Rattle.std.proofs.lemmas.List.{ext_get_or, get_or-set_same, get_or-set_other, length-map, length-set, set-get_or}
use Rattle.slh_lanes.specs.Columns.{column}
use Rattle.slh_lanes.proofs.Columns.{column_at, column_set}
use Rattle.slh_lanes.proofs.long_words.put_words.Goals as goal

pub words-preserved : goal.words-preserved
words-preserved c =
    let at : ℕ = c.words.k in
    let j : ℕ = c.args.j in
    let v : List ℕ = c.with_lane.result in
    let new : ℕ = slice_index v j in
    let old : List ℕ = column j c.words.vectors in
    let long : length old ≡ length c.args.words.now = length-map _ _ ∙ c.words.invariant.len ∙ sym c.requires.len in
    record {
      len = length-set _ _ _ ∙ c.words.invariant.len;
      set = λ i lt.
          let written = ap (λ (l : List ℕ). slice_index l i) (column_set j c.words.vectors at v) in
          elim (cases_lt i at) [
            | inl below ↦ written ∙ get_or-set_other old at i new 0 (omega arith) ∙ c.words.invariant.set i below
            | inr ge ↦
                let e : i ≡ at = omega arith in
                written ∙ ap (λ (q : ℕ). slice_index (set old at new) q) e ∙ get_or-set_same old at new 0 (omega (arith, long))
                ∙ c.with_lane.ensures.set ∙ ap (λ (q : ℕ). slice_index c.args.words.now q) (sym e)
          ];
      others = λ i other.
          let own : List ℕ = column i c.words.vectors in
          column_set i c.words.vectors at v
          ∙ ap (λ (w : ℕ). set own at w) (c.with_lane.ensures.others i other ∙ sym (column_at i c.words.vectors at))
          ∙ set-get_or own at 0 ∙ c.words.invariant.others i other;
    }

pub returns-clause-set : goal.returns-clause-set
returns-clause-set c =
    let long = length-map _ _ ∙ c.words.invariant.len ∙ sym c.requires.len in
    ext_get_or 0 (column c.args.j c.words.vectors) c.args.words.now long (λ i lt. c.words.invariant.set i (omega (arith, long, lt)))
