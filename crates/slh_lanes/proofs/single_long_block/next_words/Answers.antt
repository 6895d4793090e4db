use Rattle.std.proofs.Common.{◌≡◌, ◌≢◌, ℕ, ◌+◌, ◌%◌, List, slice_index, slice_set, refl, sym, ap, ◌∙◌, arith}
use Rattle.std.proofs.lemmas.List.{get_or-set_other}
use Rattle.slh_lanes.specs.Columns.{column}
use Rattle.slh_lanes.specs.Pairs.{word_after}
use Rattle.slh_lanes.proofs.single_long_block.next_words.Goals as goal

same : (p q r s x y z u : ℕ) → p ≡ x → q ≡ y → r ≡ z → s ≡ u → word_after p q r s ≡ word_after x y z u
same p q r s x y z u ep eq er es = rw (ep, eq, er, es) refl

-- a word stays where another one is written
kept : (l : List ℕ) (p x i k : ℕ) → i ≡ k → k ≢ p → slice_index l i ≡ slice_index (slice_set l p x) k
kept l p x i k e other = ap (λ (n : ℕ). slice_index l n) e ∙ sym (get_or-set_other l p k x 0 other)

pub returns-clause-first : goal.returns-clause-first
returns-clause-first c =
    ap (λ (l : List ℕ). slice_index l 0) c.next_pair.ensures
    ∙ same _ _ _ _ _ _ _ _ c.pair-4.ensures.first c.pair-3.ensures.first c.pair.ensures.second c.pair.ensures.first

pub returns-clause-second : goal.returns-clause-second
returns-clause-second c =
    let w : List ℕ = column 0 c.args.w.now in
    let place : ℕ = c.args.place in
    let x : ℕ = slice_index c.next_pair.result 0 in
    ap (λ (l : List ℕ). slice_index l 1) c.next_pair.ensures
    ∙ same _ _ _ _ _ _ _ _ (c.pair-4.ensures.second ∙ kept w place x ((place + 14 + 1) % 16) ((place + 1 + 14) % 16) (omega arith) (omega arith))
    (c.pair-3.ensures.second ∙ kept w place x ((place + 9 + 1) % 16) ((place + 1 + 9) % 16) (omega arith) (omega arith))
    (c.pair-2.ensures.first ∙ kept w place x ((place + 2) % 16) ((place + 1 + 1) % 16) (omega arith) (omega arith))
    (c.pair.ensures.second ∙ kept w place x ((place + 1) % 16) ((place + 1) % 16) refl (omega arith))
