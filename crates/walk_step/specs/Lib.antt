pub mod Step
pub mod Sizes
pub mod Terms
pub mod Result
