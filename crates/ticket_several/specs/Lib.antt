pub mod Residues
pub mod Shape
pub mod Job
