pub mod States
pub mod Handling
pub mod Sessions
pub mod Answers
pub mod Theorems
