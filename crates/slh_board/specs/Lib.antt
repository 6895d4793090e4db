pub mod Counts
pub mod Views
pub mod Rule
pub mod Seats
pub mod Kept
pub mod Claims
pub mod History
