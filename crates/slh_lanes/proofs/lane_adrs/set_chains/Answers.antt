use Rattle.std.proofs.Common.{◌≡◌, ◌≢◌, ℕ, ◌*◌, ◌/◌, ◌%◌, ◌^◌, List, [], slice_index, set, length, arith, sym, ap, ◌∙◌, w32}
use Rattle.std.proofs.lemmas.List.{get_or-set_same, get_or-set_other, length-map, length-set}
use Rattle.slh_lanes.specs.Block.{halves}
use Rattle.slh_lanes.specs.Columns.{column}
use Rattle.slh_lanes.specs.Lanes.{HasAddress}
use Rattle.slh_lanes.proofs.Addresses.{chain_set}
use Rattle.slh_lanes.proofs.Columns.{column_at, column_set}
use Rattle.slh_lanes.proofs.WordLanes.{lane_lt}
use Rattle.slh_lanes.proofs.lane_adrs.set_chains.Goals as goal

pub returns : goal.returns
unfolding HasAddress
returns c j lane = λ a held.
    let old : List ℕ = column j c.args.adrs.now in
    let n : ℕ = slice_index c.args.chains j in
    let p : ℕ = slice_index c.halves.result j in
    let q : ℕ = slice_index c.halves-2.result j in
    let long : length old ≡ 6 = length-map _ _ ∙ c.told-adrs in
    let words : column j _ ≡ set (set old 3 p) 4 q = column_set j _ 4 c.halves-2.result ∙ ap (λ (l : List ℕ). set l 4 q) (column_set j c.args.adrs.now 3 c.halves.result) in
    let other = ap (λ (v : List ℕ). slice_index v j) (get_or-set_other c.args.adrs.now 3 4 c.halves.result [] (omega arith)) ∙ sym (column_at j c.args.adrs.now 4) in
    let at = λ (k : ℕ). ap (λ (l : List ℕ). slice_index l k) words in
    let kept : (k : ℕ) → k ≢ 3 → k ≢ 4 → slice_index (set (set old 3 p) 4 q) k ≡ slice_index old k = λ k a b.
    get_or-set_other (set old 3 p) 4 k q 0 b ∙ get_or-set_other old 3 k p 0 a in
    let l3 : slice_index (set (set old 3 p) 4 q) 3 ≡ p = get_or-set_other (set old 3 p) 4 3 q 0 (omega arith) ∙ get_or-set_same old 3 p 0 (omega arith) in
    let l4 : slice_index (set (set old 3 p) 4 q) 4 ≡ q = get_or-set_same (set old 3 p) 4 q 0 (omega (arith, length-set old 3 p)) in
    chain_set old _ n (c.tell_all.ensures j lane) (lane_lt 8 w32 c.args.chains c.fits-chains j lane)
    (at 0 ∙ kept 0 (omega arith) (omega arith)) (at 1 ∙ kept 1 (omega arith) (omega arith)) (at 2 ∙ kept 2 (omega arith) (omega arith))
    (at 3 ∙ l3 ∙ c.halves.ensures j lane ∙ ap (λ (w : ℕ). halves w n) (c.high.ensures j lane ∙ ap (λ (w : ℕ). w / 2 ^ 16) (sym (column_at j c.args.adrs.now 3))))
    (at 4 ∙ l4 ∙ c.halves-2.ensures j lane ∙ ap (halves n) (c.low.ensures j lane ∙ ap (λ (w : ℕ). w * 2 ^ 16 % 2 ^ 32) other))
    (at 5 ∙ kept 5 (omega arith) (omega arith))
    a held
