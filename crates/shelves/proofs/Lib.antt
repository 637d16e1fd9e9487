pub mod Rows
pub mod Moving
pub mod Clearing
pub mod Viewing
pub mod Submitting
pub mod Running
