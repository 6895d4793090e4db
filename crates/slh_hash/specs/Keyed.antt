-- HMAC (FIPS 198-1) and MGF1 (RFC 8017, B.2.1) over any hash function, and the message hashes of
-- FIPS 205, section 11.2.
use Rattle.std.specs.Prelude.{ℕ, zero, suc, ◌-◌, List, [], ◌++◌, map, take, length, replicate, bit_xor, nat_le, if◌then◌else◌}
use Rattle.std.specs.Borrow.{Bor}
use Rattle.std.specs.List.{flat_map}
use Rattle.slh_params.specs.Bits.{to_byte}
use Rattle.slh_params.specs.Params.{Params, ceil_div, m}
use Rattle.slh_hash.specs.HashFunctions.{HashFunction, category_function}

-- slices put end to end
abbrev pub joined : List (Bor (List ℕ)) → List ℕ
joined parts = flat_map (λ p. p.now) parts

-- the bytes with zeros after them, up to a block
abbrev pub filled : ℕ → List ℕ → List ℕ
filled block bytes = bytes ++ replicate (block - length bytes) 0

-- K0: the key, or its hash where it is longer than a block, filled up
abbrev pub key_block : HashFunction → List ℕ → List ℕ
key_block f key = if nat_le (length key) f.block then filled f.block key else filled f.block (f.hash key)

-- each byte xor the pad
abbrev pub xor_each : ℕ → List ℕ → List ℕ
xor_each pad bytes = map (λ b. bit_xor b pad) bytes

-- (K0 xor opad) ‖ Hash((K0 xor ipad) ‖ text)
abbrev pub hmac_message : HashFunction → List ℕ → List ℕ → List ℕ
hmac_message f key text = xor_each 0x5c (key_block f key) ++ f.hash (xor_each 0x36 (key_block f key) ++ text)

-- HMAC: Hash((K0 xor opad) ‖ Hash((K0 xor ipad) ‖ text))
unfoldable pub hmac : HashFunction → List ℕ → List ℕ → List ℕ
hmac f key text = f.hash (hmac_message f key text)

-- Hash(seed ‖ toByte(0, 4)) ‖ .. ‖ Hash(seed ‖ toByte(count - 1, 4))
abbrev pub mgf1_blocks : HashFunction → List ℕ → ℕ → List ℕ
mgf1_blocks f seed zero = []
mgf1_blocks f seed (suc count) = mgf1_blocks f seed count ++ f.hash (seed ++ to_byte count 4)

-- MGF1: the first l bytes of as many blocks as they need
unfoldable pub mgf1 : HashFunction → List ℕ → ℕ → List ℕ
mgf1 f seed l = take l (mgf1_blocks f seed (ceil_div l f.size))

-- PRF_msg
unfoldable pub PRF_msg : Params → List ℕ → List ℕ → List ℕ → List ℕ
PRF_msg p sk_prf opt_rand msg = take p.n (hmac (category_function p) sk_prf (opt_rand ++ msg))

-- R ‖ PK.seed ‖ Hash(R ‖ PK.seed ‖ PK.root ‖ M), which H_msg hands to MGF1
abbrev pub h_msg_seed : HashFunction → List ℕ → List ℕ → List ℕ → List ℕ → List ℕ
h_msg_seed f r pk_seed pk_root msg = r ++ pk_seed ++ f.hash (r ++ pk_seed ++ pk_root ++ msg)

-- the inner hash of H_msg: Hash(R ‖ PK.seed ‖ PK.root ‖ M)
abbrev pub inner_hash : Params → List ℕ → List ℕ → List ℕ → List ℕ → List ℕ
inner_hash p r pk_seed pk_root msg = (category_function p).hash (r ++ pk_seed ++ pk_root ++ msg)

-- the length of an inner hash: 32 bytes if n is 16, else 64
abbrev pub inner_hash_len : Params → ℕ
inner_hash_len p = (category_function p).size

-- H_msg by an inner hash: MGF1 of R ‖ PK.seed ‖ hash, of m bytes
abbrev pub H_msg_by_hash : Params → List ℕ → List ℕ → List ℕ → List ℕ
H_msg_by_hash p r pk_seed hash = mgf1 (category_function p) (r ++ pk_seed ++ hash) (m p)

-- H_msg, of m bytes
unfoldable pub H_msg : Params → List ℕ → List ℕ → List ℕ → List ℕ → List ℕ
H_msg p r pk_seed pk_root msg = H_msg_by_hash p r pk_seed (inner_hash p r pk_seed pk_root msg)
