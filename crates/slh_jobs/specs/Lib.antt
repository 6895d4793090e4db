pub mod Ranges
pub mod UpperTrees
pub mod Tags
pub mod AnswerTags
pub mod Jobs
pub mod Starts
pub mod Signers
pub mod Joined
pub mod AllAnswers
pub mod KeyJobs
pub mod JobFault
-- cited by public clauses
pub use Rattle.slh_params.specs.Params
pub use Rattle.slh_params.specs.ParamSet
pub use Rattle.slh_core.specs.Keys
pub use Rattle.slh_core.specs.Messages
pub use Rattle.slh_core.specs.Randomizers
pub use Rattle.slh_core.specs.Signatures
