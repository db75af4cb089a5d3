pub mod Product
pub mod Reduction
pub mod Steps
