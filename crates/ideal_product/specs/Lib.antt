pub mod Coprime
pub mod CoprimeResult
