use Rattle.std.proofs.Common.{◌≡◌, ℕ, ◌/◌, ◌^◌, List, [], slice_index, slice_index_or, sym, ap, ap₂, ◌∙◌}
use Rattle.slh_lanes.specs.Block.{halves}
use Rattle.slh_lanes.specs.Columns.{column}
use Rattle.slh_lanes.specs.Lanes.{HasAddress}
use Rattle.slh_lanes.proofs.Addresses.{half_address}
use Rattle.slh_lanes.proofs.Columns.{column_at}
use Rattle.slh_lanes.proofs.short_stream.address_words.Goals as goal

pub returns : goal.returns
unfolding HasAddress
returns c j lane = λ a held.
    let x : List (List ℕ) = c.args.adrs.now in
    let at : (k : ℕ) → slice_index (slice_index_or x k []) j ≡ slice_index (column j x) k = λ k. sym (column_at j x k) in
    half_address (column j x) _ (c.tell_all.ensures j lane)
    (c.high.ensures j lane ∙ ap (λ (w : ℕ). w / 2 ^ 16) (at 0))
    (c.halves.ensures j lane ∙ ap₂ halves (at 0) (at 1)) (c.halves-2.ensures j lane ∙ ap₂ halves (at 1) (at 2))
    (c.halves-3.ensures j lane ∙ ap₂ halves (at 2) (at 3)) (c.halves-4.ensures j lane ∙ ap₂ halves (at 3) (at 4))
    (c.halves-5.ensures j lane ∙ ap₂ halves (at 4) (at 5))
    ∙ held
