use Rattle.std.proofs.Common.{◌≡◌, ℕ, ◌+◌, ◌-◌, ◌*◌, ◌/◌, ◌%◌, ◌^◌, List, [], ◌∷◌, ◌++◌, length, replicate, arith, sym, subst, ap, ◌∙◌, append_assoc, w32}
use Rattle.std.specs.Int.{to_be_bytes}
use Rattle.std.proofs.lemmas.List.{append-nil, replicate-append-replicate}
use Rattle.sha2.specs.Sha256.{digest_bytes, initial_hash_256, padding, sha256}
use Rattle.slh_lanes.specs.Columns.{column}
use Rattle.slh_lanes.specs.Streams.{HoldsAt, half_on, vectors}
use Rattle.slh_lanes.specs.declared.short_stream.ShortStream.{ShortStream}
use Rattle.slh_lanes.proofs.Columns.{splat_lane}
use Rattle.slh_lanes.proofs.Streams.{hash_padded, padding_words}
use Rattle.slh_lanes.proofs.short_stream.ShortStream.finish.Goals as goal

pub zeros-init : goal.zeros-init
zeros-init c j lane = λ m held. rw (append-nil m) held

pub zeros-preserved : goal.zeros-preserved
zeros-preserved c j lane = λ m held.
    let k : ℕ = c.zeros.counter in
    let z : List ℕ = replicate (4 * k) 0 in
    let four : 4 * (k + 1) ≡ 4 * k + 4 = omega arith in
    let more : z ++ replicate 4 0 ≡ replicate (4 * (k + 1)) 0 = replicate-append-replicate (4 * k) 4 0 ∙ ap (λ (q : ℕ). replicate q 0) (sym four) in
    let pushed = c.push-in-zeros.ensures j lane (m ++ z) (c.zeros.invariant j lane m held) in
    subst (HoldsAt c.push-in-zeros.new.self j)
    (ap (λ (w : ℕ). (m ++ z) ++ to_be_bytes w32 w) (splat_lane 0 j lane) ∙ append_assoc m z (replicate 4 0) ∙ ap (λ (l : List ℕ). m ++ l) more) pushed

-- the length and the hash value of a lane
held_len : (s : ShortStream) (j : ℕ) (m : List ℕ) → HoldsAt s j m → s.len ≡ length m % 2 ^ 32
unfolding HoldsAt
held_len s j m held = held.0

held_odd : (s : ShortStream) (j : ℕ) (m : List ℕ) → HoldsAt s j m → length m % 4 ≡ 2
unfolding HoldsAt
held_odd s j m held = held.1

held_hash : (s : ShortStream) (j : ℕ) (m t : List ℕ) → HoldsAt s j (m ++ t) → t ≡ padding (length m) ++ 0 ∷ 0 ∷ []
    → digest_bytes (column j (vectors s.state)) 8 ≡ sha256 m
unfolding HoldsAt sha256
held_hash s j m t held is =
    ap (λ (h : List ℕ). digest_bytes h 8) (hash_padded initial_hash_256 (column j (vectors s.state)) (half_on (column j (vectors s.words)) 17) m t held.2 is)

pub returns : goal.returns
returns c j lane = λ m held few.
    let n : ℕ = length m in
    let b : ℕ = n * 8 in
    let k : ℕ = c.zeros.counter in
    let len = held_len c.args.self j m held in
    let odd = held_odd c.args.self j m held in
    let exact : c.args.self.len ≡ n = omega (arith, len, few) in
    let bits : c.args.self.len * 8 % 2 ^ 32 ≡ b = omega (arith, exact, few) in
    let count : (119 - n % 64) % 64 ≡ 4 * k + 1 = omega (arith, exact, odd) in
    let z : List ℕ = replicate (4 * k) 0 in
    let mark : List ℕ = to_be_bytes w32 0x80000000 in
    let up : List ℕ = to_be_bytes w32 (b / 2 ^ 16) in
    let down : List ℕ = to_be_bytes w32 (b * 2 ^ 16 % 2 ^ 32) in
    let lane_bits = splat_lane (c.args.self.len * 8 % 2 ^ 32) j lane ∙ bits in
    let up_is = c.high.ensures j lane ∙ ap (λ (w : ℕ). w / 2 ^ 16) lane_bits in
    let down_is = c.low.ensures j lane ∙ ap (λ (w : ℕ). w * 2 ^ 16 % 2 ^ 32) lane_bits in
    let h1 : HoldsAt c.push.new.self j (m ++ mark) =
    subst (HoldsAt c.push.new.self j) (ap (λ (w : ℕ). m ++ to_be_bytes w32 w) (splat_lane 0x80000000 j lane)) (c.push.ensures j lane m held) in
    let h2 = c.zeros.invariant j lane (m ++ mark) h1 in
    let h3 : HoldsAt c.push-2.new.self j (((m ++ mark) ++ z) ++ up) =
    subst (HoldsAt c.push-2.new.self j) (ap (λ (w : ℕ). ((m ++ mark) ++ z) ++ to_be_bytes w32 w) up_is) (c.push-2.ensures j lane _ h2) in
    let h4 : HoldsAt c.push-3.new.self j ((((m ++ mark) ++ z) ++ up) ++ down) =
    subst (HoldsAt c.push-3.new.self j) (ap (λ (w : ℕ). (((m ++ mark) ++ z) ++ up) ++ to_be_bytes w32 w) down_is) (c.push-3.ensures j lane _ h3) in
    let t : List ℕ = mark ++ (z ++ (up ++ down)) in
    let whole : (((m ++ mark) ++ z) ++ up) ++ down ≡ m ++ t =
    append_assoc ((m ++ mark) ++ z) up down ∙ append_assoc (m ++ mark) z (up ++ down) ∙ append_assoc m mark (z ++ (up ++ down)) in
    ap (λ (s : List (List ℕ)). digest_bytes (column j s) 8) c.bare.ensures
    ∙ held_hash c.push-3.new.self j m t (subst (HoldsAt c.push-3.new.self j) whole h4) (padding_words n k (omega arith) count)
