pub mod Refusal
pub mod Part
