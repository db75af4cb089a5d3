pub mod Radicand
pub mod Squarefree
