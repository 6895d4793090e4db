pub mod Places
pub mod Draws
pub mod Seated
pub mod Covered
pub mod Outcomes
pub mod ItemAnswers
