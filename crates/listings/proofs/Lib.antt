pub mod Leaves
pub mod Listing
pub mod Pieces
pub mod Places
pub mod Seeking
