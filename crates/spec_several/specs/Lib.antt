pub mod Several
pub mod Residues
pub mod Shape
pub mod Jobs
pub mod Single
pub mod Regulators
