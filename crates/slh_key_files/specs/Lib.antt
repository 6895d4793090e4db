pub use Rattle.slh_core.specs.Keys
pub mod FileFault
pub mod Lines
pub mod KeyFile
pub mod Base64Lines
pub mod Pkix
