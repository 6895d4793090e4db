pub mod DrawnKey
pub mod JobRanges
-- cited by public clauses
pub use Rattle.slh_params.specs.Params
pub use Rattle.slh_params.specs.ParamSet
pub use Rattle.slh_core.specs.Keys
pub use Rattle.slh_core.specs.Messages
pub use Rattle.slh_core.specs.PreHash
pub use Rattle.slh_core.specs.Signatures
pub use Rattle.slh_jobs.specs.Starts
pub use Rattle.slh_jobs.specs.Tags
