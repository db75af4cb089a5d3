pub mod Records
pub mod Ideal
pub mod Part
pub mod Listed
