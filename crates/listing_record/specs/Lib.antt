pub mod Entry
pub mod Remainder
pub mod Places
