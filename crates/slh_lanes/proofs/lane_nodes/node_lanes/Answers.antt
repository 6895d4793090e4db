use Rattle.std.proofs.Common.{◌≡◌, ℕ, ◌+◌, ◌-◌, ◌/◌, ◌<◌, List, [], ◌∷◌, ◌++◌, drop, length, slice_index, slice_index_or, arith, ap, ◌∙◌}
use Rattle.std.proofs.lemmas.List.{get_or-append_right, get_or-drop, get_or_append_left, length-map, length-take-le, map-append}
use Rattle.slh_lanes.specs.Columns.{column}
use Rattle.slh_lanes.specs.Lanes.{value_at}
use Rattle.slh_lanes.proofs.Columns.{column_at, splat_lane}
use Rattle.slh_lanes.proofs.Lanes8.{below_eight}
use Rattle.slh_lanes.proofs.Values.{value_is}
use Rattle.slh_lanes.proofs.lane_nodes.node_lanes.Goals as goal

abbrev zero : List ℕ
zero = 0 ∷ 0 ∷ 0 ∷ 0 ∷ 0 ∷ 0 ∷ 0 ∷ 0 ∷ []

abbrev zeros : List (List ℕ)
zeros = zero ∷ zero ∷ zero ∷ zero ∷ zero ∷ zero ∷ zero ∷ zero ∷ []

zero_at : (j k : ℕ) → j < 8 → k < 8 → slice_index (slice_index_or zeros k []) j ≡ 0
zero_at j k lane low =
    let z = splat_lane 0 j lane in
    below_eight (λ i. slice_index (slice_index_or zeros i []) j ≡ 0) z z z z z z z z k low

pub returns-clause-value : goal.returns-clause-value
unfolding value_at
returns-clause-value c j lane =
    let v : List ℕ = c.args.value.now in
    let front : List (List ℕ) = c.load_all.new.words in
    let small : (k : ℕ) → slice_index v k < 256 = λ k. let fit = c.type_inv.value k in fit.fits in
    let loaded : length front ≡ length v / 4 = c.load_all.ensures.len ∙ length-take-le (length v / 4) _ (omega (arith, c.requires.few)) in
    value_is _ v c.requires.whole c.requires.few small (λ k lt.
    ap (λ (l : List ℕ). slice_index l k) (map-append (λ (w : List ℕ). slice_index w j) front _)
    ∙ get_or_append_left (column j front) _ 0 k (omega (arith, length-map {B = ℕ} front (λ (w : List ℕ). slice_index w j), loaded))
    ∙ c.load_all.ensures.words j lane k (omega (arith, loaded)))

pub returns-clause-behind : goal.returns-clause-behind
returns-clause-behind c j k lane low past =
    let v : List ℕ = c.args.value.now in
    let m : ℕ = length v / 4 in
    let front : List (List ℕ) = c.load_all.new.words in
    let loaded : length front ≡ m = c.load_all.ensures.len ∙ length-take-le m _ (omega (arith, c.requires.few)) in
    let from : m + (k - m) ≡ k = omega arith in
    column_at j (front ++ drop m zeros) k
    ∙ ap (λ (w : List ℕ). slice_index w j)
    (get_or-append_right front (drop m zeros) m k [] loaded (omega arith) ∙ get_or-drop m zeros (k - m) [] ∙ ap (λ (i : ℕ). slice_index_or zeros i []) from)
    ∙ zero_at j k lane low
