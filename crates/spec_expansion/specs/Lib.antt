pub mod PolynomialPart
pub mod Digits
pub mod QuasiPeriod
