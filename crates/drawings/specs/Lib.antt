pub mod Texts
pub mod Answers
