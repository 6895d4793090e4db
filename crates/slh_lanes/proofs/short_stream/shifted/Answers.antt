use Rattle.std.proofs.Common.{◌≡◌, ℕ, ◌+◌, ◌*◌, ◌<◌, ◌^◌, List, length, slice_index, set, take, inl, inr, arith, sym, ap, ap₂, ◌∙◌}
use Rattle.std.proofs.lemmas.Bool.{cases_lt}
use Rattle.std.proofs.lemmas.List.{get_or-set_same, get_or-set_other, length-map, length-set}
use Rattle.sha2.specs.Sha256.{word_at}
use Rattle.slh_lanes.specs.Block.{halves}
use Rattle.slh_lanes.specs.Columns.{column}
use Rattle.slh_lanes.specs.Streams.{half_on, vectors}
use Rattle.slh_lanes.proofs.Columns.{column_set, vector_at}
use Rattle.slh_lanes.proofs.Streams.{half_word}
use Rattle.slh_lanes.proofs.short_stream.shifted.Goals as goal

pub words-preserved : goal.words-preserved
words-preserved c = (
  length-set _ _ _ ∙ c.words.invariant.0,
  λ j lane i lt.
      let ws : List ℕ = column j (vectors c.args.words.now) in
      let old : List ℕ = column j c.words.block in
      let at : ℕ = c.words.k in
      let new : ℕ = slice_index c.halves.result j in
      let long : length old ≡ 16 = length-map _ _ ∙ c.words.invariant.0 in
      let p = vector_at j c.args.words.now at in
      let q = vector_at j c.args.words.now (at + 1) in
      let fp : slice_index ws at < 2 ^ 32 = rw p (c.tell_short.ensures j lane) in
      let fq : slice_index ws (at + 1) < 2 ^ 32 = rw q (c.tell_short-in-words.ensures j lane) in
      let written = ap (λ (l : List ℕ). slice_index l i) (column_set j c.words.block at c.halves.result) in
      elim (cases_lt i at) [
        | inl below ↦ c.words.invariant.1 j lane i below ∙ sym (written ∙ get_or-set_other old at i new 0 (omega arith))
        | inr ge ↦
            let e : i ≡ at = omega arith in
            ap (λ (k : ℕ). word_at (take 64 (half_on ws 17)) (4 * k)) e ∙ half_word 16 ws at (omega arith) fp fq
            ∙ sym (written ∙ ap (λ (k : ℕ). slice_index (set old at new) k) e ∙ get_or-set_same old at new 0 (omega (arith, long))
            ∙ c.halves.ensures j lane ∙ ap₂ halves (sym p) (sym q))
      ],
)

pub returns : goal.returns
returns c j lane k lt = c.words.invariant.1 j lane k (omega arith)
