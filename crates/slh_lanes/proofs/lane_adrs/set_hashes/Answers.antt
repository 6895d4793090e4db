use Rattle.std.proofs.Common.{◌≡◌, ℕ, ◌/◌, ◌^◌, ◌<◌, List, slice_index, set, length, arith, sym, ap, ◌∙◌, w32}
use Rattle.std.proofs.lemmas.List.{get_or-set_same, get_or-set_other, length-map, length-set}
use Rattle.slh_lanes.specs.Block.{halves}
use Rattle.slh_lanes.specs.Columns.{column}
use Rattle.slh_lanes.specs.Lanes.{HasAddress}
use Rattle.slh_lanes.proofs.Addresses.{hash_set}
use Rattle.slh_lanes.proofs.Columns.{column_at, column_set}
use Rattle.slh_lanes.proofs.WordLanes.{lane_lt}
use Rattle.slh_lanes.proofs.lane_adrs.set_hashes.Goals as goal

pub returns : goal.returns
unfolding HasAddress
returns c j lane = λ a held.
    let old : List ℕ = column j c.args.adrs.now in
    let n : ℕ = slice_index c.args.hashes j in
    let p : ℕ = slice_index c.halves.result j in
    let q : ℕ = slice_index c.low.result j in
    let long : length old ≡ 6 = length-map _ _ ∙ c.told-adrs in
    let words : column j _ ≡ set (set old 4 p) 5 q = column_set j _ 5 c.low.result ∙ ap (λ (l : List ℕ). set l 5 q) (column_set j c.args.adrs.now 4 c.halves.result) in
    let at = λ (k : ℕ). ap (λ (l : List ℕ). slice_index l k) words in
    let kept : (k : ℕ) → k < 4 → slice_index (set (set old 4 p) 5 q) k ≡ slice_index old k = λ k low.
    get_or-set_other (set old 4 p) 5 k q 0 (omega arith) ∙ get_or-set_other old 4 k p 0 (omega arith) in
    let l4 : slice_index (set (set old 4 p) 5 q) 4 ≡ p = get_or-set_other (set old 4 p) 5 4 q 0 (omega arith) ∙ get_or-set_same old 4 p 0 (omega arith) in
    let l5 : slice_index (set (set old 4 p) 5 q) 5 ≡ q = get_or-set_same (set old 4 p) 5 q 0 (omega (arith, length-set old 4 p)) in
    hash_set old _ n (c.tell_all.ensures j lane) (lane_lt 8 w32 c.args.hashes c.fits-hashes j lane)
    (at 0 ∙ kept 0 (omega arith)) (at 1 ∙ kept 1 (omega arith)) (at 2 ∙ kept 2 (omega arith)) (at 3 ∙ kept 3 (omega arith))
    (at 4 ∙ l4 ∙ c.halves.ensures j lane ∙ ap (λ (w : ℕ). halves w n) (c.high.ensures j lane ∙ ap (λ (w : ℕ). w / 2 ^ 16) (sym (column_at j c.args.adrs.now 4))))
    (at 5 ∙ l5 ∙ c.low.ensures j lane)
    a held
