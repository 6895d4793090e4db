use Rattle.std.proofs.Common.{◌≡◌, ℕ, ◌+◌, ◌-◌, ◌*◌, ◌/◌, List, length, take, drop, arith, ap, ◌∙◌, length-drop}
use Rattle.std.proofs.lemmas.List.{take_all}
use Rattle.sha2.specs.Sha256.{hash_after, initial_hash_256, padding}
use Rattle.slh_lanes.specs.HmacLanes.{IsBegun, inner_front}
use Rattle.slh_lanes.proofs.hmac_lanes.HmacLanes.new.Goals as goal

pub returns-clause-begun : goal.returns-clause-begun
unfolding IsBegun
returns-clause-begun c =
    let m : List ℕ = inner_front c.args.key.now c.args.front.now in
    let held : c.message_of-message.result.items ≡ m = c.message_of-message.ensures.value in
    let len : c.len-len.result ≡ length m = c.len-len.ensures.value ∙ ap length held in
    let bytes : List ℕ = c.as_slice-3.result.now in
    let start : ℕ = c.len-len.result / 64 * 64 in
    let rest : take (length bytes - start) (drop start bytes) ≡ drop start bytes =
    take_all (length bytes - start) (drop start bytes) (omega (arith, length-drop start bytes)) in
    let block : length c.as_slice-2.result.now / 64 ≡ 1 = omega (arith, ap length c.as_slice-2.ensures.value, c.padded_key.ensures.len) in (
      c.requires.key,
      c.hash_after.ensures ∙ ap (λ (x : List ℕ). hash_after initial_hash_256 x (length x / 64)) (c.as_slice.ensures.value ∙ held),
      c.hash_after-2.ensures ∙ ap (hash_after initial_hash_256 c.as_slice-2.result.now) block
          ∙ ap (λ (x : List ℕ). hash_after initial_hash_256 x 1) (c.as_slice-2.ensures.value ∙ c.padded_key.ensures.value),
      c.block_of.ensures ∙ rest ∙ (λ i. drop (len i / 64 * 64) ((c.as_slice-3.ensures.value ∙ held) i)),
      c.padding_of.ensures ∙ ap (λ (k : ℕ). padding (k + 20)) len,
    )
