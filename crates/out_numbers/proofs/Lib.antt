pub mod Least
pub mod NumberLaws
