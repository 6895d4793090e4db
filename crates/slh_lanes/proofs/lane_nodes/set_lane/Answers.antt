use Rattle.std.proofs.Common.{◌≡◌, ℕ, ◌*◌, ◌<◌, List, [], length, slice_index, set, take, inl, inr, arith, sym, ap, ◌∙◌}
use Rattle.std.proofs.lemmas.Bool.{cases_lt}
use Rattle.std.proofs.lemmas.List.{get_or-set_same, get_or-set_other, length-map, length-set, set-get_or}
use Rattle.sha2.specs.Sha256.{digest_bytes, word_at}
use Rattle.slh_lanes.specs.Columns.{column}
use Rattle.slh_lanes.specs.Lanes.{value_at}
use Rattle.slh_lanes.proofs.Columns.{column_at, column_set}
use Rattle.slh_lanes.proofs.Values.{value_is}
use Rattle.slh_lanes.proofs.lane_nodes.set_lane.Goals as goal

pub words-preserved : goal.words-preserved
words-preserved c =
    let at : ℕ = c.words.k in
    let v : List ℕ = c.with_lane.result in
    let long : (i : ℕ) → length (column i c.words.nodes) ≡ 8 = λ i. length-map _ _ ∙ c.words.invariant.long in
    record {
      long = length-set _ _ _ ∙ c.words.invariant.long;
      set = λ i lt.
          let old : List ℕ = column c.args.j c.words.nodes in
          let new : ℕ = slice_index v c.args.j in
          let written = ap (λ (l : List ℕ). slice_index l i) (column_set c.args.j c.words.nodes at v) in
          elim (cases_lt i at) [
            | inl below ↦ written ∙ get_or-set_other old at i new 0 (omega arith) ∙ c.words.invariant.set i below
            | inr ge ↦
                let e : i ≡ at = omega arith in
                written ∙ ap (λ (q : ℕ). slice_index (set old at new) q) e ∙ get_or-set_same old at new 0 (omega (arith, long c.args.j))
                ∙ c.with_lane.ensures.set ∙ c.load_be.ensures ∙ ap (λ (q : ℕ). word_at c.args.value.now (4 * q)) (sym e)
          ];
      behind = λ i le.
          column_at c.args.j (set c.words.nodes at v) i
          ∙ ap (λ (w : List ℕ). slice_index w c.args.j) (get_or-set_other c.words.nodes at i v [] (omega arith))
          ∙ sym (column_at c.args.j c.words.nodes i) ∙ c.words.invariant.behind i (omega arith);
      others = λ i other.
          let old : List ℕ = column i c.words.nodes in
          column_set i c.words.nodes at v
          ∙ ap (λ (w : ℕ). set old at w) (c.with_lane.ensures.others i other ∙ sym (column_at i c.words.nodes at))
          ∙ set-get_or old at 0 ∙ c.words.invariant.others i other;
    }

pub returns-clause-set : goal.returns-clause-set
unfolding value_at
returns-clause-set c =
    let v : List ℕ = c.args.value.now in
    let small : (k : ℕ) → slice_index v k < 256 = λ k. let fit = c.type_inv.value k in fit.fits in
    value_is _ v c.requires.whole c.requires.few small (λ k lt. c.words.invariant.set k (omega arith))

pub returns-clause-others : goal.returns-clause-others
unfolding value_at
returns-clause-others c = λ i n other. ap (λ (ws : List ℕ). take n (digest_bytes ws 8)) (c.words.invariant.others i other)

pub returns-clause-behind : goal.returns-clause-behind
returns-clause-behind c = λ k past. c.words.invariant.behind k (omega arith)
