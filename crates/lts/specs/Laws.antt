-- Proofs that the sources' ghost members cite.
pub mod Same
pub mod Most
pub mod Member
pub mod Counting
pub mod Stored
pub mod Mapped
pub mod Joined
