use Rattle.std.proofs.Common.{◌≡◌, ℕ, List, [], ◌∷◌, ◌++◌, length, take, arith, length-append, ap, ◌∙◌}
use Rattle.std.proofs.lemmas.List.{take-take, take_at}
use Rattle.slh_lanes.specs.Columns.{column}
use Rattle.slh_lanes.specs.Lanes.{HasAddress}
use Rattle.slh_lanes.proofs.WordBytes.{digest_of_bytes}
use Rattle.slh_lanes.proofs.lane_adrs.adrs_lanes.Goals as goal

pub returns : goal.returns
unfolding HasAddress
returns c j lane =
    let v : List ℕ = c.copy_from_slice.new.self in
    let bytes : List ℕ = v ++ 0 ∷ 0 ∷ [] in
    let long : length bytes ≡ 24 = omega (arith, length-append v (0 ∷ 0 ∷ []), c.copy_from_slice.ensures.len) in
    ap (take 22) (digest_of_bytes (column j c.load_all.new.words) bytes 6 (omega (arith, long)) c.load_all.ensures.bytes (c.load_all.ensures.words j lane))
    ∙ take-take 22 24 bytes (omega arith) ∙ take_at v (0 ∷ 0 ∷ []) 22 c.copy_from_slice.ensures.len
    ∙ c.copy_from_slice.ensures.after ∙ c.compressed.ensures
