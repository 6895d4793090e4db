-- The bytes that the lanes of HMAC-SHA-256 have taken: ours, over FIPS 198-1.
use Rattle.std.specs.Prelude.{◌≡◌, ℕ, ◌+◌, ◌*◌, ◌/◌, ◌%◌, ◌≤◌, List, ◌++◌, length, drop}
use Rattle.sha2.specs.Sha256.{hash_after, initial_hash_256, padding}
use Rattle.slh_hash.specs.HashFunctions.{SHA_256}
use Rattle.slh_hash.specs.Keyed.{key_block, xor_each}
use Rattle.slh_lanes.specs.declared.hmac_lanes.HmacLanes.{HmacLanes}

-- the bytes that the inner hash takes before the rest of a text
abbrev pub inner_front : List ℕ → List ℕ → List ℕ
inner_front key front = xor_each 0x36 (key_block SHA_256 key) ++ front

-- after the front of a text of this length the end, of 20 bytes, and the least padding, of 9, fit the block that is begun
abbrev pub FitsBlock : ℕ → Type 0
FitsBlock len = len % 64 + 20 + 9 ≤ 64

-- If the key has at most a block, both hash values have taken the whole blocks of the key and of the front of a text.
-- There are the bytes that are left of the front, and the padding after 20 bytes more.
unfoldable pub IsBegun : HmacLanes → List ℕ → List ℕ → Type 0
IsBegun h key front =
    let m = inner_front key front in
    (length key ≤ 64)
    × (h.inner ≡ hash_after initial_hash_256 m (length m / 64))
    × (h.outer ≡ hash_after initial_hash_256 (xor_each 0x5c (key_block SHA_256 key)) 1)
    × (h.left.items ≡ drop (length m / 64 * 64) m)
    × (h.padding.items ≡ padding (length m + 20))
