pub mod Counting
pub mod Rows
