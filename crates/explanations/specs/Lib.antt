pub mod Sides
pub mod Refused
pub mod Formulas
pub mod Ways
pub mod Parts
pub mod Explanations
pub mod Givens
pub mod Contrasts
