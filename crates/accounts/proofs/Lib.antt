pub mod Determined
pub mod Keeping
pub mod Lasting
