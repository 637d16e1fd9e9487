pub mod Lines
pub mod Faults
pub mod Evaluation
pub mod Marked
