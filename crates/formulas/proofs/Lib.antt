pub mod Growing
pub mod Misfits
pub mod Rows
pub mod Stepping
pub mod Marking
pub mod Writing
