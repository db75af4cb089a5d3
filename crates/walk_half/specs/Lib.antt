pub mod Outcome
pub mod Arrays
pub mod Search
