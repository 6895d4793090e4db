pub mod Keys
pub mod DigestParts
pub mod Randomizers
pub mod Signatures
pub mod Random
pub mod PreHash
pub mod PreHashing
pub mod Messages
pub mod Verifying
pub mod Hardened
pub mod HashedMessages
-- cited by public clauses
pub use Rattle.slh_params.specs.Params
pub use Rattle.slh_params.specs.ParamSet
pub use Rattle.slh_hash.specs.Keyed
pub use Rattle.rand_core.specs.Stream
pub mod EightSignatures
