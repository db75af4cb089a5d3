pub mod Monics
pub mod SquareCount
