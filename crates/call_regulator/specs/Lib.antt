pub mod Regulator
