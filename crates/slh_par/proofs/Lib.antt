pub mod SplitAnswers
pub mod Checkpoints
pub mod Parts
pub mod Unique
pub mod TopCovers
