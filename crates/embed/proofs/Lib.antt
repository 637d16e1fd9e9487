pub mod Writing
pub mod Reading
pub mod Lent
pub mod Many
pub mod Sessions
