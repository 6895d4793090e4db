pub mod Totals
pub mod Keeps
pub mod Allowed
pub mod Settles
pub mod Seating
pub mod Rising
pub mod Histories
pub mod Tallies
