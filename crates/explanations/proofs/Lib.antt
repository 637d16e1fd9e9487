pub mod Answering
pub mod Following
pub mod Letters
pub mod Placing
pub mod Spelling
pub mod Telling
