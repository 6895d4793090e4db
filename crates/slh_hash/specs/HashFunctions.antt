-- The hash functions that FIPS 205 uses with the SHA-2 sets (section 11.2), here by n for every record.
use Rattle.std.specs.Prelude.{◌≡◌, ℕ, ◌≤◌, List, length, if◌then◌else◌, ◌==◌}
use Rattle.sha2.specs.Sha256.{sha256}
use Rattle.sha2.specs.Sha512.{sha512}
use Rattle.sha2.proofs.Facts256.{length-sha256}
use Rattle.sha2.proofs.Facts512.{length-sha512}
use Rattle.std.proofs.Common.{lit≤}
use Rattle.slh_params.specs.Params.{Params}

-- a hash function, with the lengths of its blocks and of its digests in bytes
pub record HashFunction : Type 0 where
  pub hash : List ℕ → List ℕ
  pub block : ℕ
  pub size : ℕ

abbrev pub SHA_256 : HashFunction
SHA_256 = record { hash = sha256; block = 64; size = 32 }

abbrev pub SHA_512 : HashFunction
SHA_512 = record { hash = sha512; block = 128; size = 64 }

-- the function of H, T, PRF_msg and H_msg: SHA-256 in category 1, which has n = 16, else SHA-512
abbrev pub category_function : Params → HashFunction
category_function p = if p.n == 16 then SHA_256 else SHA_512

-- each digest has the function's length; a digest fits a block, and both fit the longest ones
pub record IsSized (f : HashFunction) : Type 0 where
  pub digests : (m : List ℕ) → length (f.hash m) ≡ f.size
  pub low : 32 ≤ f.size
  pub fits : f.size ≤ f.block
  pub size_high : f.size ≤ 64
  pub block_high : f.block ≤ 128

pub sized_256 : IsSized SHA_256
sized_256 = record { digests = length-sha256; low = lit≤ tt; fits = lit≤ tt; size_high = lit≤ tt; block_high = lit≤ tt }

pub sized_512 : IsSized SHA_512
sized_512 = record { digests = length-sha512; low = lit≤ tt; fits = lit≤ tt; size_high = lit≤ tt; block_high = lit≤ tt }
