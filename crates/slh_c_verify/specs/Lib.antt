pub mod Numbers
pub mod Refusals
pub mod Rules
pub mod Keys
