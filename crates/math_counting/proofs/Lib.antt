pub mod Count
pub mod HowMany
pub mod Numbers
pub mod Pigeonhole
pub mod Repeats
pub mod SquareFactors
pub mod SquarePart
