pub mod Faults
pub mod Inputs
pub mod Laws
pub mod Words
