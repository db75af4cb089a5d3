pub mod Least
pub mod Places
