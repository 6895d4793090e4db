use Rattle.std.proofs.Common.{ℕ, ◌+◌, ◌*◌, ◌<◌, ◌≤◌, List, length, take, inl, inr, arith, sym, ap, ap₂, ◌∙◌}
use Rattle.std.proofs.lemmas.List.{length-take-le}
use Rattle.sha2.specs.Sha256.{compress, digest_bytes}
use Rattle.slh_params.specs.ParamSet.{params}
use Rattle.slh_params.proofs.Bounds.{n_high}
use Rattle.slh_lanes.specs.Block.{second_block}
use Rattle.slh_lanes.specs.Columns.{column}
use Rattle.slh_lanes.specs.Lanes.{HasAddress, group, value_at}
use Rattle.slh_lanes.proofs.Tweaked.{tweaked_is}
use Rattle.slh_lanes.proofs.WordBytes.{length-digest_bytes}
use Rattle.slh_lanes.proofs.seeded_lanes.SeededLanes.digests_of_two.Goals as goal

pub returns : goal.returns
unfolding HasAddress value_at
returns over c = λ g j in_batch lane a held.
    let lanes = c.args.self.now in
    let p = params lanes.set in
    let len : ℕ = c.args.len in
    let at : ℕ = 8 * g + j in
    let within : at < 16 = omega (arith, lane, in_batch, c.requires.two) in
    let high : p.n ≤ 32 = n_high lanes.set in
    let most : len ≤ 32 = elim c.requires.len [ inl e ↦ omega (arith, e) | inr (inl e) ↦ omega (arith, e) | inr (inr e) ↦ omega (arith, e) ] in
    let bytes : List ℕ = digest_bytes (column j (group c.args.x.now g)) 8 in
    let long_x = length-take-le len bytes (omega (arith, length-digest_bytes (column j (group c.args.x.now g)) 8, most)) in
    let few : length (take len bytes) ≤ 32 = omega (arith, long_x, most) in
    let block = ap₂ second_block (ap (λ (l : List ℕ). take 22 (digest_bytes l 6)) (c.join_adrs-joined.ensures g j in_batch lane) ∙ held)
    (ap (λ (l : List ℕ). take len (digest_bytes l 8)) (c.join_nodes-nodes.ensures g j in_batch lane)) in
    let digest = c.compress.ensures at within _ (c.second_block.ensures.words at within) ∙ ap₂ compress (c.splat_all-state.ensures at within ∙ lanes.short_state) block in
    ap (λ (h : List ℕ). take p.n (digest_bytes h 8)) (c.split_nodes.ensures g j in_batch lane ∙ digest)
    ∙ sym (tweaked_is p lanes.pk_seed.now a (take len bytes) lanes.len high few)
