pub mod Powers
pub mod Roots
