pub mod Bisimulation
pub mod Rounds
pub mod Formulas
pub mod Classes
pub mod Joins
pub mod Theorems
