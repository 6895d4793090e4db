use Rattle.std.proofs.Common.{rules, ◌≡◌, ℕ, ◌-◌, List, ◌++◌, length, take, replicate, arith, ap, ◌∙◌, length-append}
use Rattle.std.proofs.lemmas.List.{length-map, length-replicate, take-replicate, take_all}
use Rattle.slh_hash.specs.HashFunctions.{SHA_256}
use Rattle.slh_hash.specs.Keyed.{filled, key_block, xor_each}
use Rattle.slh_lanes.proofs.hmac_lanes.padded_key.Goals as goal

pub returns : goal.returns
returns c =
    let key : List ℕ = c.args.key.now in
    let zeros : take {A = ℕ} (64 - length key) (replicate {A = ℕ} 64 0) ≡ replicate {A = ℕ} (64 - length key) 0 = take-replicate (64 - length key) 64 0 (omega arith) in
    let whole : c.as_slice-byte-items.result.now ≡ filled 64 key =
    c.as_slice-byte-items.ensures.value ∙ c.append.ensures ∙ (λ i. c.block_of-block.ensures i ++ zeros i) in
    let all : take c.loop-byte.byte-index c.as_slice-byte-items.result.now ≡ filled 64 key = take_all c.loop-byte.byte-index _ c.loop-byte-test.false ∙ whole in
    let block : filled 64 key ≡ key_block SHA_256 key = search rules in
    let value : c.loop-byte.padded.items ≡ xor_each c.args.pad (filled 64 key) = c.loop-byte.invariant ∙ ap (xor_each c.args.pad) all in
    let size : length (filled 64 key) ≡ 64 =
    omega (arith, c.requires, length-append key (replicate {A = ℕ} (64 - length key) 0), length-replicate {A = ℕ} (64 - length key) 0) in
    record { value = value ∙ ap (xor_each c.args.pad) block; len = ap length value ∙ length-map _ _ ∙ size }
