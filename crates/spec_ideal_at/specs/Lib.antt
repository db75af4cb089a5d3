pub mod Halving
pub mod Reached
pub mod Below
