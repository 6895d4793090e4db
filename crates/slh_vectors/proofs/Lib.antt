pub mod AllOutcomes
pub mod FoundTests
pub mod Json
pub mod Loop
pub mod MemberLaws
pub mod PutLines
pub mod ReadAgain
