pub mod Meaning
pub mod Layout
pub mod Fault
pub mod Map
pub mod Joined
pub mod Copying
pub mod Filling
pub mod Laws
