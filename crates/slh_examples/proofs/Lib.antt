pub mod Verdicts
pub mod JobRanges
