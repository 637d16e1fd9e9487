pub mod Numbers
pub mod Comparisons
pub mod Evaluations
pub mod Consoles
