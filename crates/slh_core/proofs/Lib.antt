pub mod Parts
pub mod Lengths
pub mod Messages
pub mod Valid
pub mod Names
pub mod Assembled
pub mod Verdicts
pub mod Hashed
pub mod EightVerdicts
mod SameSets
