pub mod Signed
pub mod Stepped
