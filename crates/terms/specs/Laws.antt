-- Proofs that the ghost members of the term's source cite.
pub mod Order
pub mod Lawful
