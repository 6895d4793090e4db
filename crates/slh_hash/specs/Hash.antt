-- The tweakable hash functions of SLH-DSA with SHA-2 (FIPS 205, section 11.2), on lists of bytes.
use Rattle.std.specs.Prelude.{ℕ, ◌-◌, List, ◌++◌, take}
use Rattle.slh_params.specs.Address.{Address, compressed}
use Rattle.slh_params.specs.Bits.{to_byte}
use Rattle.slh_params.specs.Params.{Params}
use Rattle.slh_hash.specs.HashFunctions.{HashFunction, SHA_256, category_function}

-- PK.seed ‖ toByte(0, block - n) ‖ ADRSc ‖ X
abbrev pub tweaked : ℕ → Params → List ℕ → Address → List ℕ → List ℕ
tweaked block p pk_seed adrs x = pk_seed ++ to_byte 0 (block - p.n) ++ compressed adrs ++ x

-- Trunc_n(f(PK.seed ‖ toByte(0, block - n) ‖ ADRSc ‖ X))
abbrev pub tweaked_hash : HashFunction → Params → List ℕ → Address → List ℕ → List ℕ
tweaked_hash f p pk_seed adrs x = take p.n (f.hash (tweaked f.block p pk_seed adrs x))

-- F, of one node
unfoldable pub F : Params → List ℕ → Address → List ℕ → List ℕ
F p pk_seed adrs x = tweaked_hash SHA_256 p pk_seed adrs x

-- PRF
unfoldable pub PRF : Params → List ℕ → List ℕ → Address → List ℕ
PRF p pk_seed sk_seed adrs = tweaked_hash SHA_256 p pk_seed adrs sk_seed

-- T_l, of l nodes put end to end
unfoldable pub T : Params → List ℕ → Address → List ℕ → List ℕ
T p pk_seed adrs x = tweaked_hash (category_function p) p pk_seed adrs x

-- H, of two nodes
abbrev pub H : Params → List ℕ → Address → List ℕ → List ℕ → List ℕ
H p pk_seed adrs x1 x2 = T p pk_seed adrs (x1 ++ x2)
