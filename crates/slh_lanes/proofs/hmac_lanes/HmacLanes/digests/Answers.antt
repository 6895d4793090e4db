use Rattle.std.proofs.Common.{◌≡◌, ℕ, ◌+◌, ◌-◌, ◌*◌, ◌/◌, ◌%◌, ◌≤◌, List, [], ◌++◌, length, replicate, arith, refl, sym, ap, ◌∙◌, length-append, length-drop, append_assoc}
use Rattle.std.proofs.lemmas.Bool.{le-leb}
use Rattle.std.proofs.lemmas.List.{drop_all, length-map, length-replicate}
use Rattle.sha2.specs.Sha256.{compress, digest_bytes, hash_after, initial_hash_256, padding, sha256}
use Rattle.sha2.proofs.Facts256.{length-sha256}
use Rattle.slh_params.specs.Bits.{to_byte}
use Rattle.slh_hash.specs.HashFunctions.{SHA_256}
use Rattle.slh_hash.specs.Keyed.{filled, hmac, key_block, xor_each}
use Rattle.slh_lanes.specs.Columns.{column}
use Rattle.slh_lanes.specs.HmacLanes.{IsBegun, inner_front}
use Rattle.slh_lanes.specs.Lanes.{value_at}
use Rattle.slh_lanes.proofs.LastBlock.{last_block}
use Rattle.slh_lanes.proofs.hmac_lanes.HmacLanes.digests.Goals as goal

-- all 32 bytes of a lane, and how many the first 16 are
all_bytes : (x : List (List ℕ)) (j : ℕ) → value_at x j 32 ≡ digest_bytes (column j x) 8
unfolding value_at digest_bytes
all_bytes x j = refl

sixteen : (x : List (List ℕ)) (j : ℕ) → length (value_at x j 16) ≡ 16
unfolding value_at digest_bytes
sixteen x j = refl

-- the block of a key that is no longer
length-block : (pad : ℕ) (key : List ℕ) → length key ≤ 64 → length (xor_each pad (key_block SHA_256 key)) ≡ 64
length-block pad key le =
    let is : key_block SHA_256 key ≡ filled 64 key = rw (le-leb (length key) 64 le) refl in
    length-map _ _ ∙ ap length is
    ∙ omega (arith, le, length-append key (replicate {A = ℕ} (64 - length key) 0), length-replicate {A = ℕ} (64 - length key) 0)

pub returns : goal.returns
unfolding hmac IsBegun
returns c = λ key front begun j lane.
    let h = c.args.self.now in
    let i : List ℕ = xor_each 0x36 (key_block SHA_256 key) in
    let o : List ℕ = xor_each 0x5c (key_block SHA_256 key) in
    let m : List ℕ = inner_front key front in
    let x : List ℕ = to_byte (c.args.first + j) 4 ++ value_at c.args.nodes.now j 16 in
    let lx : length x ≡ 20 = omega (arith, length-append (to_byte (c.args.first + j) 4) (value_at c.args.nodes.now j 16), sixteen c.args.nodes.now j) in
    let pad : h.padding.items ≡ padding (length m + length x) = begun.4 ∙ ap (λ (k : ℕ). padding (length m + k)) (sym lx) in
    let full : length m % 64 + (length x + length (padding (length m + length x))) ≡ 64 =
    omega (arith, h.fills, ap length begun.3, length-drop (length m / 64 * 64) m, ap length pad, lx) in
    let d : List ℕ = sha256 (i ++ (front ++ x)) in
    let inner : value_at c.after_block-inner.result j 32 ≡ d =
    all_bytes c.after_block-inner.result j
    ∙ ap (λ (s : List ℕ). digest_bytes s 8) (c.after_block-inner.ensures j lane
    ∙ ap (compress h.inner) (c.loop-j.invariant j (omega (arith, lane, c.loop-j-test.false)) ∙ ap (λ (q : List ℕ). h.left.items ++ (x ++ q)) pad))
    ∙ sym (last_block h.inner h.left.items m x begun.1 begun.3 full) ∙ ap sha256 (append_assoc i front x) in
    let lo : length o ≡ 64 = length-block 0x5c key begun.0 in
    let ld : length d ≡ 32 = length-sha256 (i ++ (front ++ x)) in
    let one : length o / 64 ≡ 1 = omega (arith, lo) in
    let last : padding (length o + length d) ≡ padding 96 = λ k. padding (lo k + ld k) in
    let rest : value_at c.node_lanes.result j 32 ≡ padding 96 =
    ap (value_at c.node_lanes.result j) (sym (ap length (c.as_slice-2.ensures.value ∙ c.padding_of-padding.ensures)))
    ∙ c.node_lanes.ensures.value j lane
    ∙ c.as_slice-2.ensures.value ∙ c.padding_of-padding.ensures in
    all_bytes c.after_block.result j
    ∙ ap (λ (s : List ℕ). digest_bytes s 8) (c.after_block.ensures j lane ∙ (λ k. compress h.outer (inner k ++ (rest ∙ sym last) k)))
    ∙ sym (last_block h.outer [] o d (begun.2 ∙ ap (hash_after initial_hash_256 o) (sym one)) (sym (drop_all (length o / 64 * 64) o (omega (arith, lo))))
    (omega (arith, lo, ld, ap length last)))
    ∙ ap (λ (text : List ℕ). sha256 (o ++ sha256 (i ++ text))) (sym (append_assoc front (to_byte (c.args.first + j) 4) (value_at c.args.nodes.now j 16)))
