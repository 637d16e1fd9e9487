pub mod Account
pub mod Calls
pub mod Law
