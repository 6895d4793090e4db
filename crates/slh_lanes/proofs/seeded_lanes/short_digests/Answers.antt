use Rattle.std.proofs.Common.{ℕ, ◌≤◌, List, length, take, inl, inr, arith, sym, ap, ap₂, ◌∙◌}
use Rattle.std.proofs.lemmas.List.{length-take-le}
use Rattle.sha2.specs.Sha256.{compress, digest_bytes}
use Rattle.slh_lanes.specs.Block.{second_block}
use Rattle.slh_lanes.specs.Columns.{column}
use Rattle.slh_lanes.specs.Lanes.{HasAddress, value_at}
use Rattle.slh_lanes.proofs.Tweaked.{tweaked_is}
use Rattle.slh_lanes.proofs.WordBytes.{length-digest_bytes}
use Rattle.slh_lanes.proofs.seeded_lanes.short_digests.Goals as goal

pub returns : goal.returns
unfolding HasAddress value_at
returns c = λ p pk j a high whole lane state held.
    let bytes : List ℕ = digest_bytes (column j c.args.x.now) 8 in
    let x : List ℕ = take c.args.len bytes in
    let most : c.args.len ≤ 32 = elim c.requires [ inl e ↦ omega (arith, e) | inr (inl e) ↦ omega (arith, e) | inr (inr e) ↦ omega (arith, e) ] in
    let long_x = length-take-le c.args.len bytes (omega (arith, length-digest_bytes (column j c.args.x.now) 8, most)) in
    let lx : length x ≤ 32 = omega (arith, long_x, most) in
    let block = ap (λ (l : List ℕ). second_block l x) held in
    ap (λ (h : List ℕ). take p.n (digest_bytes h 8)) (c.compress.ensures.words j lane _ (c.second_block.ensures.words j lane) ∙ ap₂ compress state block)
    ∙ sym (tweaked_is p pk a x whole high lx)
