pub mod Numbers
pub mod Residue
pub mod Named
pub mod Reciprocal
