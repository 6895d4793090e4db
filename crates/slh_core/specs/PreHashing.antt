-- The bytes that a `PreHasher` was fed: ours.
use Rattle.std.specs.Prelude.{◌≡◌, ℕ, List}
use Rattle.sha2.specs.Hashers.{Holds224, Holds256, Holds384, Holds512, Holds512_224, Holds512_256}
use Rattle.slh_core.specs.declared.pre_hash.PreHash.{PreHash}
use Rattle.slh_core.specs.declared.pre_hash.PreHash.TheVariants.{Sha224, Sha256, Sha384, Sha512, Sha512_224, Sha512_256}
use Rattle.slh_core.specs.declared.pre_hasher.PreHasher.{PreHasher}
use Rattle.slh_core.specs.declared.pre_hasher.Hasher.{Hasher}
use Rattle.slh_core.specs.declared.pre_hasher.Hasher.TheVariants.{Of224, Of256, Of384, Of512, Of512_224, Of512_256}

-- the state is of this function, and holds this message
abbrev pub HoldsMessage : Hasher → PreHash → List ℕ → Type 0
HoldsMessage (Of224 state) function msg = (function ≡ Sha224) × Holds224 state msg
HoldsMessage (Of256 state) function msg = (function ≡ Sha256) × Holds256 state msg
HoldsMessage (Of384 state) function msg = (function ≡ Sha384) × Holds384 state msg
HoldsMessage (Of512 state) function msg = (function ≡ Sha512) × Holds512 state msg
HoldsMessage (Of512_224 state) function msg = (function ≡ Sha512_224) × Holds512_224 state msg
HoldsMessage (Of512_256 state) function msg = (function ≡ Sha512_256) × Holds512_256 state msg

-- a hasher of this function was fed this message
unfoldable pub HasFed : PreHasher → PreHash → List ℕ → Type 0
HasFed hasher function msg = HoldsMessage hasher.state function msg
