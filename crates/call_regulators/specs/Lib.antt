pub mod Regulators
pub mod Filled
