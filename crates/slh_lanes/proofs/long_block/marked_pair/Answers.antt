use Rattle.std.proofs.Common.{◌≡◌, ◌==◌, false, arith, [], ◌∷◌, slice_index, slice_index_or}
use Rattle.slh_lanes.proofs.Columns.{column_at, splat_lane}
use Rattle.slh_lanes.proofs.long_block.marked_pair.Goals as goal

pub returns-else-n-eq24 : goal.returns-else-n-eq24
returns-else-n-eq24 c j lane =
    let l = c.args.left.now in
    let r = c.args.right.now in
    let other : (c.args.n == 24) ≡ false = grind (arith, c.if-n-eq24.false) in
    rw (
      other,
      column_at j l 0,
      column_at j l 1,
      column_at j l 2,
      column_at j l 3,
      column_at j l 4,
      column_at j l 5,
      column_at j l 6,
      column_at j l 7,
      column_at j r 0,
      column_at j r 1,
      column_at j r 2,
      column_at j r 3,
      column_at j r 4,
      column_at j r 5,
      column_at j r 6,
      column_at j r 7,
    )
    (λ i. (slice_index (slice_index_or l 0 []) j) ∷ (slice_index (slice_index_or l 1 []) j) ∷ (slice_index (slice_index_or l 2 []) j) ∷ (slice_index (slice_index_or l 3 []) j)
    ∷ (slice_index (slice_index_or l 4 []) j) ∷ (slice_index (slice_index_or l 5 []) j) ∷ (slice_index (slice_index_or l 6 []) j) ∷ (slice_index (slice_index_or l 7 []) j)
    ∷ (slice_index (slice_index_or r 0 []) j) ∷ (slice_index (slice_index_or r 1 []) j) ∷ (slice_index (slice_index_or r 2 []) j) ∷ (slice_index (slice_index_or r 3 []) j)
    ∷ (slice_index (slice_index_or r 4 []) j) ∷ (slice_index (slice_index_or r 5 []) j) ∷ (slice_index (slice_index_or r 6 []) j) ∷ (slice_index (slice_index_or r 7 []) j)
    ∷ splat_lane 0x80000000 j lane i ∷ [])
