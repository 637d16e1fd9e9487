pub mod Testing
pub mod Comparing
pub mod Table
