-- WOTS+ (FIPS 205, section 5).
use Rattle.std.specs.Prelude.{ℕ, ◌-◌, ◌*◌, ◌%◌, ◌^◌, ◌≤◌, List, ◌++◌, map, sum, slice_index}
use Rattle.slh_params.specs.Address.{Address, address, WOTS_HASH, WOTS_PK, WOTS_PRF}
use Rattle.slh_params.specs.Bits.{base_2b, to_byte}
use Rattle.slh_params.specs.Params.{Params, ceil_div, w, len, len1, len2}
use Rattle.slh_hash.specs.Hash.{PRF, T}
use Rattle.slh_lanes.specs.Steps.{steps}
use Rattle.slh_few.specs.Chunks.{end_to_end, chunk}
use Rattle.slh_few.specs.declared.place.Place.{Place}

-- the WOTS+ address of a type at a place
abbrev pub wots_address : Place → ℕ → ℕ → ℕ → Address
wots_address at type chain hash = address at.layer at.tree type at.pair chain hash

-- s steps of chain c from step f on (Algorithm 5)
unfoldable pub chain : Params → List ℕ → Place → ℕ → List ℕ → ℕ → ℕ → List ℕ
chain p pk_seed at c x f s = steps p pk_seed (wots_address at WOTS_HASH c 0) x f s

-- how far below the last step the digits are, in all
abbrev pub checksum : Params → List ℕ → ℕ
checksum p ds = sum (map (λ d. w p - 1 - d) ds)

-- the zero bits that follow the checksum up to a whole byte
abbrev pub checksum_shift : Params → ℕ
checksum_shift p = (8 - (len2 p * p.lg_w) % 8) % 8

-- the shifted checksum in as few whole bytes as its digits need
abbrev pub checksum_bytes : Params → ℕ → List ℕ
checksum_bytes p csum = to_byte (csum * 2 ^ checksum_shift p) (ceil_div (len2 p * p.lg_w) 8)

-- the digits of a checksum
abbrev pub checksum_digits : Params → ℕ → List ℕ
checksum_digits p csum = base_2b (checksum_bytes p csum) p.lg_w (len2 p)

-- the digits of a message, without the checksum
abbrev pub message_digits : Params → List ℕ → List ℕ
message_digits p m = base_2b m p.lg_w (len1 p)

-- the digits of a message, then those of their checksum (Algorithm 7)
unfoldable pub digits : Params → List ℕ → List ℕ
digits p m = message_digits p m ++ checksum_digits p (checksum p (message_digits p m))

-- digit c
abbrev pub digit : Params → List ℕ → ℕ → ℕ
digit p m c = slice_index (digits p m) c

-- the secret of chain c
unfoldable pub secret : Params → List ℕ → List ℕ → Place → ℕ → List ℕ
secret p sk_seed pk_seed at c = PRF p pk_seed sk_seed (wots_address at WOTS_PRF c 0)

-- T over the ends of all chains
abbrev pub compressed_ends : Params → List ℕ → Place → (ℕ → List ℕ) → List ℕ
compressed_ends p pk_seed at ends = T p pk_seed (wots_address at WOTS_PK 0 0) (end_to_end ends (len p))

-- chain c from its secret to its end
abbrev pub whole_chain : Params → List ℕ → List ℕ → Place → ℕ → List ℕ
whole_chain p sk_seed pk_seed at c = chain p pk_seed at c (secret p sk_seed pk_seed at c) 0 (w p - 1)

-- the public key (Algorithm 6)
unfoldable pub wots_pk : Params → List ℕ → List ℕ → Place → List ℕ
wots_pk p sk_seed pk_seed at = compressed_ends p pk_seed at (whole_chain p sk_seed pk_seed at)

-- chain c from its secret to the message's digit
abbrev pub signed_chain : Params → List ℕ → List ℕ → Place → List ℕ → ℕ → List ℕ
signed_chain p sk_seed pk_seed at m c = chain p pk_seed at c (secret p sk_seed pk_seed at c) 0 (digit p m c)

-- the signature (Algorithm 7)
unfoldable pub wots_sig : Params → List ℕ → List ℕ → Place → List ℕ → List ℕ
wots_sig p sk_seed pk_seed at m = end_to_end (signed_chain p sk_seed pk_seed at m) (len p)

-- chain c from the signature's value to its end
abbrev pub finished_chain : Params → List ℕ → Place → List ℕ → List ℕ → ℕ → List ℕ
finished_chain p pk_seed at m sig c = chain p pk_seed at c (chunk p.n sig c) (digit p m c) (w p - 1 - digit p m c)

-- the public key that a signature gives (Algorithm 8)
unfoldable pub wots_pk_from_sig : Params → List ℕ → Place → List ℕ → List ℕ → List ℕ
wots_pk_from_sig p pk_seed at m sig = compressed_ends p pk_seed at (finished_chain p pk_seed at m sig)

-- the first digits are nowhere below the second
abbrev pub NowhereBelow : List ℕ → List ℕ → Type 0
NowhereBelow ds es = (c : ℕ) → slice_index es c ≤ slice_index ds c
