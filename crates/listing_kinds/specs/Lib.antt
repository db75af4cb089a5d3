pub mod Kinds
pub mod Passed
