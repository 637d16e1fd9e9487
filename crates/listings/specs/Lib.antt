pub mod Texts
pub mod Offsets
