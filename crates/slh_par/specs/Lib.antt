pub mod JobAnswers
pub mod TopTree
pub mod ParFault
pub mod Verdicts
pub mod EightItems
-- cited by public clauses
pub use Rattle.slh_params.specs.Params
pub use Rattle.slh_params.specs.ParamSet
pub use Rattle.slh_core.specs.Keys
pub use Rattle.slh_core.specs.Messages
pub use Rattle.slh_core.specs.PreHash
pub use Rattle.slh_core.specs.Randomizers
pub use Rattle.slh_core.specs.Signatures
