pub mod Estimate
pub mod Values
pub mod Squares
pub mod Rounding
pub mod Bounds
pub mod Ratios
pub mod Estimates
