pub mod Folder
pub mod Answers
