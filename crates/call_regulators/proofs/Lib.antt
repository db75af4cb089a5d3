pub mod Filled
pub mod OutcomeLaws
