-- The pre-hash functions (FIPS 205, section 10.2.2).
use Rattle.std.specs.Prelude.{ℕ, List, [], ◌∷◌, Option, codes}
use Rattle.std.specs.List.{find}
use Rattle.std.specs.Str.{bytes_eq}
use Rattle.sha2.specs.Sha256.{sha224, sha256}
use Rattle.sha2.specs.Sha512.{sha384, sha512, sha512_224, sha512_256}
use Rattle.slh_core.specs.declared.pre_hash.PreHash.{PreHash}
use Rattle.slh_core.specs.declared.pre_hash.PreHash.TheVariants.{Sha224, Sha256, Sha384, Sha512, Sha512_224, Sha512_256}

-- a digest as contracts see it
pub record Digest : Type 0 where
  pub function : PreHash
  pub bytes : List ℕ

abbrev pub name : PreHash → List ℕ
name Sha224 = codes "SHA2-224"
name Sha256 = codes "SHA2-256"
name Sha384 = codes "SHA2-384"
name Sha512 = codes "SHA2-512"
name Sha512_224 = codes "SHA2-512/224"
name Sha512_256 = codes "SHA2-512/256"

-- the functions, in the order of the enum
abbrev pub functions : List PreHash
functions = Sha224 ∷ Sha256 ∷ Sha384 ∷ Sha512 ∷ Sha512_224 ∷ Sha512_256 ∷ []

-- the function of this name
unfoldable pub function_named : List ℕ → Option PreHash
function_named text = find (λ function. bytes_eq (name function) text) functions

-- the last byte of the object identifier
abbrev pub last_arc : PreHash → ℕ
last_arc Sha224 = 4
last_arc Sha256 = 1
last_arc Sha384 = 2
last_arc Sha512 = 3
last_arc Sha512_224 = 5
last_arc Sha512_256 = 6

-- the DER bytes of the object identifier 2.16.840.1.101.3.4.2.x
abbrev pub oid : PreHash → List ℕ
oid function = 0x06 ∷ 0x09 ∷ 0x60 ∷ 0x86 ∷ 0x48 ∷ 0x01 ∷ 0x65 ∷ 0x03 ∷ 0x04 ∷ 0x02 ∷ last_arc function ∷ []

-- the length of a digest in bytes
abbrev pub digest_len : PreHash → ℕ
digest_len Sha224 = 28
digest_len Sha256 = 32
digest_len Sha384 = 48
digest_len Sha512 = 64
digest_len Sha512_224 = 28
digest_len Sha512_256 = 32

-- PH: the digest of a message
abbrev pub PH : PreHash → List ℕ → List ℕ
PH Sha224 msg = sha224 msg
PH Sha256 msg = sha256 msg
PH Sha384 msg = sha384 msg
PH Sha512 msg = sha512 msg
PH Sha512_224 msg = sha512_224 msg
PH Sha512_256 msg = sha512_256 msg
