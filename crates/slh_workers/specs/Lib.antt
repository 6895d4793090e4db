pub mod Gates
pub mod RunFault
pub mod Answers
pub mod Ends
pub mod Runs
pub mod Items
