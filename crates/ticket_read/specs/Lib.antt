pub mod Refusal
pub mod Accepted
