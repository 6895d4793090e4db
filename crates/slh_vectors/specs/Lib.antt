pub mod Cases
pub mod Sizes
pub mod Names
pub mod Reading
pub mod Grammar
pub mod Report
pub mod Outcomes
pub mod EightTests
-- cited by public clauses
pub use Rattle.slh_core.specs.Keys
pub use Rattle.slh_core.specs.Signatures
pub use Rattle.slh_io.specs.Devices
pub use Rattle.slh_params.specs.Params
pub use Rattle.slh_params.specs.ParamSet
