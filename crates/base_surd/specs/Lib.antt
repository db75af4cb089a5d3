pub mod Surd
