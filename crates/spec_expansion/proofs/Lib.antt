pub mod Digits
pub mod PolynomialPart
pub mod QuasiPeriod
