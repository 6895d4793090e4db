use Rattle.std.proofs.Common.{◌≡◌, ℕ, ◌+◌, ◌-◌, ◌*◌, List, take, drop, arith, sym, ap, ◌∙◌}
use Rattle.sha2.specs.Sha256.{compress, hash_after, initial_hash_256, word_at}
use Rattle.sha2.proofs.Absorbing256.{hash_after_next}
use Rattle.slh_lanes.proofs.block.hash_after.Goals as goal

pub loop-b-init : goal.loop-b-init
unfolding hash_after
loop-b-init c = λ j lane. c.initial-state.ensures j lane

pub loop-b-preserved : goal.loop-b-preserved
loop-b-preserved c = λ j lane.
    let m : List ℕ = c.args.bytes.now in
    let b : ℕ = c.loop-b.b in
    let block : List ℕ = take 64 (drop (b * 64) m) in
    let size : 64 ≡ 64 * b + 64 - 64 * b = omega arith in
    let place : b * 64 ≡ 64 * b = omega arith in
    let same : block ≡ take (64 * b + 64 - 64 * b) (drop (64 * b) m) = λ i. take (size i) (drop (place i) m) in
    c.compress.ensures.words j lane block (λ k lt. ap (λ (x : List ℕ). word_at x (4 * k)) same ∙ sym (c.load_all.ensures.words j lane k lt))
    ∙ ap (λ (h : List ℕ). compress h block) (c.loop-b.invariant j lane) ∙ sym (hash_after_next initial_hash_256 m b)
