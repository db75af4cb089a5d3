pub mod Extension
pub mod Pairs
pub mod Roots
