-- The states of the hashers of H, T_l, HMAC and H_msg. Ours, over FIPS 205, section 11.2.
use Rattle.std.specs.Prelude.{◌≡◌, ℕ, ◌-◌, List, ◌++◌, true, false, ◌==◌}
use Rattle.sha2.specs.Hashers.{Holds256, Holds512}
use Rattle.slh_params.specs.Address.{Address}
use Rattle.slh_params.specs.Bits.{to_byte}
use Rattle.slh_params.specs.Params.{Params}
use Rattle.slh_params.specs.ParamSet.{params}
use Rattle.slh_hash.specs.Hash.{tweaked}
use Rattle.slh_hash.specs.HashFunctions.{category_function}
use Rattle.slh_hash.specs.Keyed.{key_block, xor_each}
use Rattle.slh_hash.specs.declared.category_hasher.CategoryHasher.{CategoryHasher}
use Rattle.slh_hash.specs.declared.category_hasher.CategoryHasher.TheVariants.{Short, Long}
use Rattle.slh_hash.specs.declared.category_hmac.CategoryHmac.{CategoryHmac}
use Rattle.slh_hash.specs.declared.message.HMsg.{HMsg}
use Rattle.slh_hash.specs.declared.t_stream.SeededTreeHash.{SeededTreeHash}
use Rattle.slh_hash.specs.declared.t_stream.TStream.{TStream}

-- the hasher is that of the category of p, and holds the message m
abbrev pub HoldsFor : CategoryHasher → Params → List ℕ → Type 0
HoldsFor (Short s) p m = ((p.n == 16) ≡ true) × Holds256 s m
HoldsFor (Long s) p m = ((p.n == 16) ≡ false) × Holds512 s m

-- the state holds PK.seed and the zeros that fill its first block, under these parameters
unfoldable pub IsSeededTree : SeededTreeHash → Params → List ℕ → Type 0
IsSeededTree t p pk_seed = (params t.set ≡ p) × HoldsFor t.hasher p (pk_seed ++ to_byte 0 ((category_function p).block - p.n))

-- the stream has absorbed x, under these parameters, this PK.seed and this address
unfoldable pub HasAbsorbed : TStream → Params → List ℕ → Address → List ℕ → Type 0
HasAbsorbed t p pk_seed adrs x = (params t.set ≡ p) × HoldsFor t.hasher p (tweaked (category_function p).block p pk_seed adrs x)

-- both hashers hold the key under their pads, and the inner one then the text, under these parameters
unfoldable pub IsKeyed : CategoryHmac → Params → List ℕ → List ℕ → Type 0
IsKeyed h p key text =
    (params h.set ≡ p)
    × (HoldsFor h.inner p (xor_each 0x36 (key_block (category_function p) key) ++ text)
    × HoldsFor h.outer p (xor_each 0x5c (key_block (category_function p) key)))

-- the inner hash of H_msg holds R, PK.seed, PK.root and the message, under these parameters
unfoldable pub HasMessage : HMsg → Params → List ℕ → List ℕ → List ℕ → List ℕ → Type 0
HasMessage h p r pk_seed pk_root msg =
    (h.r.now ≡ r) × ((h.pk_seed.now ≡ pk_seed) × HoldsFor h.inner p (r ++ pk_seed ++ pk_root ++ msg))
