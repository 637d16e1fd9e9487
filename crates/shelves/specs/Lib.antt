pub mod Faults
pub mod Standing
pub mod Moves
pub mod Runs
