pub mod Progress
pub mod Walked
pub mod Stride
