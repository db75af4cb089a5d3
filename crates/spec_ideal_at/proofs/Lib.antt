pub mod Below
pub mod Example
pub mod Only
pub mod Reached
pub mod Repeats
