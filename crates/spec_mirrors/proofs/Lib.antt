pub mod Conjugates
pub mod Mirrors
