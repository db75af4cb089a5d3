pub mod Step
pub mod Start
pub mod Sizes
pub mod Sums
pub mod Coefficients
pub mod Quotient
pub mod Above
pub mod Short
