use Rattle.std.proofs.Common.{◌≡◌, ℕ, ◌+◌, sym, ap, arith, ◌∙◌, slice_index}
use Rattle.slh_lanes.specs.Columns.{column}
use Rattle.slh_lanes.proofs.Columns.{column_at}
use Rattle.slh_lanes.proofs.Quads.{below_four}
use Rattle.slh_lanes.proofs.single_block.quad.Goals as goal

pub returns : goal.returns
returns c =
    let block = c.args.block.now in
    let t : ℕ = c.args.t in
    let first : t ≡ t + 0 = omega arith in
    below_four _ (sym (column_at 0 block t) ∙ ap (λ (k : ℕ). slice_index (column 0 block) k) first)
    (sym (column_at 0 block (t + 1))) (sym (column_at 0 block (t + 2))) (sym (column_at 0 block (t + 3)))
