use Rattle.std.proofs.Common.{◌≡◌, ℕ, length, slice_index, inl, inr, arith, sym, ap, ◌∙◌}
use Rattle.std.proofs.lemmas.Bool.{cases_lt}
use Rattle.std.proofs.lemmas.List.{get_or_past, length-map}
use Rattle.slh_lanes.specs.Columns.{lane_column}
use Rattle.slh_lanes.proofs.Columns.{lane_column_at}
use Rattle.slh_lanes.proofs.short_lanes.tell_all.Goals as goal

pub told-preserved : goal.told-preserved
told-preserved g c j lane k lt = elim (cases_lt k c.told.k) [
  | inl below ↦ c.told.invariant j lane k below
  | inr ge ↦
      let e : k ≡ c.told.k = omega arith in
      let of = g.W.Lanes.lane in
      let is = lane_column_at of j c.args.vectors.now c.told.k c.index-vectors-k.result (omega arith) ∙ ap (λ v. of v j) (sym c.index-vectors-k.is) in
      rw (e, is) (c.tell_short.ensures j lane)
]

pub returns : goal.returns
returns g c j lane k = elim (cases_lt k (length c.args.vectors.now)) [
  | inl below ↦ c.told.invariant j lane k (omega arith)
  | inr ge ↦
      let column = lane_column g.W.Lanes.lane j c.args.vectors.now in
      let none : slice_index column k ≡ 0 = get_or_past column k 0 (omega (arith, length-map {B = ℕ} c.args.vectors.now)) in
      omega (arith, none)
]
