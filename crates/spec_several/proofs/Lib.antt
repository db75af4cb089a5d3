pub mod Example
pub mod Jobs
pub mod KindWords
pub mod Laws
pub mod Regulators
pub mod Residues
pub mod Shape
pub mod Single
