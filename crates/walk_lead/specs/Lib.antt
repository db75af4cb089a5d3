pub mod Kept
pub mod Strides
