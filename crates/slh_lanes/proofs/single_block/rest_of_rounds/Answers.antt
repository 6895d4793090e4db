use Rattle.std.proofs.Common.{◌≡◌, ℕ, ◌+◌, ◌*◌, List, refl, arith}
use Rattle.sha2.specs.Sha256.{schedule}
use Rattle.slh_lanes.proofs.Quads.{block_quad, quad_after, quad_at, same_count}
use Rattle.slh_lanes.proofs.single_block.rest_of_rounds.Goals as goal

pub schedule-init : goal.schedule-init
schedule-init c b h q0 q1 q2 q3 begun =
    let ws : List ℕ = schedule b 48 in
    let a0 = block_quad b c.args.w0 0 0 refl (omega arith) q0 in
    let a1 = block_quad b c.args.w1 4 4 refl (omega arith) q1 in
    let a2 = block_quad b c.args.w2 8 8 refl (omega arith) q2 in
    let a3 = block_quad b c.args.w3 12 12 refl (omega arith) q3 in
    let s2 = c.quad_rounds-v.ensures ws h a1 begun in
    let s3 = c.quad_rounds-v-2.ensures ws h a2 s2 in
    let s4 = c.quad_rounds-v-3.ensures ws h a3 s3 in
    (a0, a1, a2, a3, s4)

pub schedule-preserved : goal.schedule-preserved
schedule-preserved c b h q0 q1 q2 q3 begun =
    let ws : List ℕ = schedule b 48 in
    let t : ℕ = 16 * c.schedule.turn in
    let held = c.schedule.invariant b h q0 q1 q2 q3 begun in
    let b0 = quad_after b _ _ _ _ _ t (omega arith) c.next_words-x0.ensures held.0 held.1 held.2 held.3 in
    let s1 = c.quad_rounds-v-in-schedule.ensures ws h b0 held.4 in
    let a1 = quad_at b c.schedule.x2 (t + 8) (t + 4 + 4) (omega arith) held.2 in
    let a2 = quad_at b c.schedule.x3 (t + 12) (t + 4 + 8) (omega arith) held.3 in
    let a3 = quad_at b c.next_words-x0.result (t + 16) (t + 4 + 12) (omega arith) b0 in
    let b1 = quad_at b c.next_words-x1.result (t + 4 + 16) (t + 20) (omega arith) (quad_after b _ _ _ _ _ (t + 4) (omega arith) c.next_words-x1.ensures held.1 a1 a2 a3) in
    let s2 = c.quad_rounds-v-in-schedule-2.ensures ws h b1 (same_count h ws _ (t + 16 + 4) (t + 20) s1 (omega arith)) in
    let d1 = quad_at b c.schedule.x3 (t + 12) (t + 8 + 4) (omega arith) held.3 in
    let d2 = quad_at b c.next_words-x0.result (t + 16) (t + 8 + 8) (omega arith) b0 in
    let d3 = quad_at b c.next_words-x1.result (t + 20) (t + 8 + 12) (omega arith) b1 in
    let b2 = quad_at b c.next_words-x2.result (t + 8 + 16) (t + 24) (omega arith) (quad_after b _ _ _ _ _ (t + 8) (omega arith) c.next_words-x2.ensures held.2 d1 d2 d3) in
    let s3 = c.quad_rounds-v-in-schedule-3.ensures ws h b2 (same_count h ws _ (t + 20 + 4) (t + 24) s2 (omega arith)) in
    let e1 = quad_at b c.next_words-x0.result (t + 16) (t + 12 + 4) (omega arith) b0 in
    let e2 = quad_at b c.next_words-x1.result (t + 20) (t + 12 + 8) (omega arith) b1 in
    let e3 = quad_at b c.next_words-x2.result (t + 24) (t + 12 + 12) (omega arith) b2 in
    let b3 = quad_at b c.next_words-x3.result (t + 12 + 16) (t + 28) (omega arith) (quad_after b _ _ _ _ _ (t + 12) (omega arith) c.next_words-x3.ensures held.3 e1 e2 e3) in
    let s4 = c.quad_rounds-v-in-schedule-4.ensures ws h b3 (same_count h ws _ (t + 24 + 4) (t + 28) s3 (omega arith)) in
    let u : ℕ = 16 * (c.schedule.turn + 1) in (
      quad_at b _ (t + 16) u (omega arith) b0,
      quad_at b _ (t + 20) (u + 4) (omega arith) b1,
      quad_at b _ (t + 24) (u + 8) (omega arith) b2,
      quad_at b _ (t + 28) (u + 12) (omega arith) b3,
      same_count h ws _ (t + 28 + 4) (u + 16) s4 (omega arith),
    )

pub returns : goal.returns
returns c b h q0 q1 q2 q3 begun =
    let ws : List ℕ = schedule b 48 in
    let turns : 16 * c.schedule.turn + 16 ≡ 64 = omega (arith, c.schedule.auto.turn-end, c.schedule-test.false) in
    same_count h ws _ _ 64 (c.schedule.invariant b h q0 q1 q2 q3 begun).4 turns
