pub mod Faults
pub mod Letters
pub mod Form
pub mod Reading
pub mod Readings
pub mod Outputs
pub mod Texts
