pub mod Reading
pub mod Mapping
pub mod Joining
pub mod Counting
pub mod Filling
pub mod Copies
