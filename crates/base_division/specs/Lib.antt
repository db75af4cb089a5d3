pub mod Passed
pub mod Difference
pub mod Divided
